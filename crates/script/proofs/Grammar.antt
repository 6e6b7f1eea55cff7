-- Which lines say a command, by their first letter.
use Rattle.std.proofs.Common.{◌≡◌, ℕ, ◌<◌, List, ◌∷◌, ◌++◌, Some, None, Option, decimal, sym, refl, ap, ◌∙◌, subst, append_assoc, arith}
use Rattle.std.specs.Option.{option_map}
use Rattle.script.specs.declared.commands.Command.{Command}
use Rattle.script.specs.declared.commands.Command.TheVariants.{Strap, Mute, TakeBack, Split}
use Rattle.script.specs.Commands.{spelled, Says, Understood}
use Rattle.script.specs.Numbers.{IsNumber, NumberRead}
use Rattle.script.specs.Pieces.{Parted}
use Rattle.script.proofs.Parts.{same_parts, spaceless}

pub nothing_said : {line : List ℕ} → ((command : Command) → Says line command → ⊥) → Understood line None
nothing_said never = record {
  said = λ command s. absurd (never command s);
  only = λ command e. let z : ◌≡◌ {A = ℕ} 0 1 = cc in absurd (omega arith);
}

pub one_said : {line : List ℕ} {command : Command} → Says line command → ((other : Command) → Says line other → command ≡ other) → Understood line (Some command)
one_said {line} {command} s unique = record {
  said = λ other t. ap Some (unique other t);
  only = λ other e. let same : command ≡ other = cc in subst (Says line) same s;
}

apart : {a b : ℕ} {x y : List ℕ} → (a ≡ b → ⊥) → a ∷ x ≡ b ∷ y → ⊥
apart {a} {b} differ e = let same : a ≡ b = cc in differ same

pub strap_bytes : (a b : ℕ) → spelled (Strap a b) ≡ 115 ∷ 32 ∷ (decimal a ++ 32 ∷ decimal b)
strap_bytes a b = simp append_assoc

-- a line that begins with s says only straps
pub strap_lines : (rest : List ℕ) (P : Command → Type 0)
    → ((a b : ℕ) → a < 10000 → b < 10000 → rest ≡ 32 ∷ (decimal a ++ 32 ∷ decimal b) → P (Strap a b)) → (command : Command) → Says (115 ∷ rest) command → P command
strap_lines rest P f (Strap a b) s = let e : 115 ∷ rest ≡ 115 ∷ 32 ∷ (decimal a ++ 32 ∷ decimal b) = s.bytes ∙ strap_bytes a b in f a b s.short.0 s.short.1 (cc)
strap_lines rest P f (Mute n) s = absurd (apart (λ e. omega (arith, e)) s.bytes)
strap_lines rest P f TakeBack s = absurd (apart (λ e. omega (arith, e)) s.bytes)
strap_lines rest P f Split s = absurd (apart (λ e. omega (arith, e)) s.bytes)

-- a line that begins with m says only mutes
pub mute_lines : (rest : List ℕ) (P : Command → Type 0) → ((n : ℕ) → n < 10000 → rest ≡ 32 ∷ decimal n → P (Mute n)) → (command : Command) → Says (109 ∷ rest) command → P command
mute_lines rest P f (Mute n) s = let e : 109 ∷ rest ≡ 109 ∷ 32 ∷ decimal n = s.bytes in f n s.short (cc)
mute_lines rest P f (Strap a b) s = absurd (apart (λ e. omega (arith, e)) s.bytes)
mute_lines rest P f TakeBack s = absurd (apart (λ e. omega (arith, e)) s.bytes)
mute_lines rest P f Split s = absurd (apart (λ e. omega (arith, e)) s.bytes)

mute_said : (rest digits : List ℕ) (n : ℕ) → rest ≡ 32 ∷ digits → NumberRead digits (Some n) → Understood (109 ∷ rest) (Some (Mute n))
mute_said rest digits n e r =
    let is = r.only n refl in
    one_said (record { short = is.short; bytes = ap (λ xs. 109 ∷ xs) (e ∙ ap (λ xs. 32 ∷ xs) is.digits) })
    (mute_lines rest (λ other. Mute n ≡ other) (λ m small f. let same : digits ≡ decimal m = cc in
    let told = r.read m (record { short = small; digits = same }) in cc))

mute_unsaid : (rest digits : List ℕ) → rest ≡ 32 ∷ digits → NumberRead digits None → Understood (109 ∷ rest) None
mute_unsaid rest digits e r =
    nothing_said (mute_lines rest (λ _. ⊥) (λ m small f. let same : digits ≡ decimal m = cc in
    let told = r.read m (record { short = small; digits = same }) in let z : ◌≡◌ {A = ℕ} 0 1 = cc in omega arith))

pub mute_read : (rest digits : List ℕ) (net : Option ℕ) → rest ≡ 32 ∷ digits → NumberRead digits net → Understood (109 ∷ rest) (option_map Mute net)
mute_read rest digits (Some n) e r = mute_said rest digits n e r
mute_read rest digits None e r = mute_unsaid rest digits e r

-- the two numbers of a strap, where what follows the first space is parted at the next
pub strap_parts : (rest numbers before after : List ℕ) → rest ≡ 32 ∷ numbers → Parted 32 numbers before after → (P : Command → Type 0)
    → ((a b : ℕ) → IsNumber before a → IsNumber after b → P (Strap a b)) → (command : Command) → Says (115 ∷ rest) command → P command
strap_parts rest numbers before after e p P f = strap_lines rest P (λ a b small_a small_b g.
    let whole : before ++ 32 ∷ after ≡ decimal a ++ 32 ∷ decimal b = let h : numbers ≡ decimal a ++ 32 ∷ decimal b = cc in sym p.whole ∙ h in
    let same = same_parts 32 before after (decimal a) (decimal b) p.first (spaceless a (omega (arith, small_a))) whole in
    f a b (record { short = small_a; digits = same.front }) (record { short = small_b; digits = same.back }))

pub strap_said : (rest numbers before after : List ℕ) (a b : ℕ) → rest ≡ 32 ∷ numbers → Parted 32 numbers before after → NumberRead before (Some a) → NumberRead after (Some b)
    → Understood (115 ∷ rest) (Some (Strap a b))
strap_said rest numbers before after a b e p r q =
    let is = r.only a refl in
    let also = q.only b refl in
    one_said (record {
      short = (is.short, also.short);
      bytes = ap (λ xs. 115 ∷ xs) (e ∙ ap (λ xs. 32 ∷ xs) (p.whole ∙ ap (λ xs. xs ++ 32 ∷ after) is.digits ∙ ap (λ xs. decimal a ++ 32 ∷ xs) also.digits)) ∙ sym (strap_bytes a b);
    })
    (strap_parts rest numbers before after e p (λ other. Strap a b ≡ other) (λ m n is_m is_n.
    let told = r.read m is_m in let told_too = q.read n is_n in cc))

pub strap_unsaid : (rest numbers before after : List ℕ) → rest ≡ 32 ∷ numbers → Parted 32 numbers before after → ((a b : ℕ) → IsNumber before a → IsNumber after b → ⊥)
    → Understood (115 ∷ rest) None
strap_unsaid rest numbers before after e p never = nothing_said (strap_parts rest numbers before after e p (λ _. ⊥) never)

-- nothing read is no number
pub unread : (bytes : List ℕ) (n : ℕ) → NumberRead bytes None → IsNumber bytes n → ⊥
unread bytes n r is = let told = r.read n is in let z : ◌≡◌ {A = ℕ} 0 1 = cc in omega arith
