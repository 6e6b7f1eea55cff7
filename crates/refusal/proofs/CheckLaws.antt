-- Laws of checks in a row.
use Rattle.std.proofs.Common.{◌≡◌, ℕ, zero, suc, ◌+◌, ◌<◌, ◌≤◌, Bool, true, false, Some, None, Ok, Err, Option, sym, refl, subst, inl, inr, add-one, arith}
use Rattle.std.proofs.lemmas.Bool.{cases_lt, or_parts, or_left, or_right}
use Rattle.std.specs.Option.{option_or}
use Rattle.std.specs.Bool.{then_some}
use Rattle.refusal.specs.declared.Fault.{Fault}
use Rattle.refusal.specs.Checks.{some_below, first_fault, checked}

pub some_none : (test : ℕ → Bool) → some_below test 0 ≡ false
unfolding some_below
some_none test = refl

pub some_more : (test : ℕ → Bool) (n : ℕ) → some_below test n ≡ false → test n ≡ false → some_below test (n + 1) ≡ false
unfolding some_below
some_more test n p q = rw (add-one, p, q)

pub some_of_none : (test : ℕ → Bool) (n : ℕ) → ((i : ℕ) → i < n → test i ≡ false) → some_below test n ≡ false
unfolding some_below
some_of_none test zero f = refl
some_of_none test (suc n) f = rw (some_of_none test n (λ i h. f i (omega arith)), f n (omega arith))

pub some_at : (test : ℕ → Bool) (n m : ℕ) → test n ≡ true → n < m → some_below test m ≡ true
unfolding some_below
some_at test n zero p l = absurd (omega arith)
some_at test n (suc m) p l =
    elim (cases_lt n m) [
      | inl h ↦ or_left (some_below test m) (test m) (some_at test n m p h)
      | inr h ↦ let s : n ≡ m = omega arith in or_right (some_below test m) (test m) (subst (λ (x : ℕ). test x ≡ true) s p)
    ]

pub not_some : (test : ℕ → Bool) (n m : ℕ) → some_below test m ≡ false → n < m → test n ≡ false
unfolding some_below
not_some test n zero p l = absurd (omega arith)
not_some test n (suc m) p l =
    let both = or_parts (some_below test m) (test m) p in
    elim (cases_lt n m) [
      | inl h ↦ not_some test n m both.0 h
      | inr h ↦ let s : n ≡ m = omega arith in subst (λ (x : ℕ). test x ≡ false) (sym s) both.1
    ]

-- the same tests are passed alike
pub some_same : (f g : ℕ → Bool) (n : ℕ) → ((k : ℕ) → k < n → f k ≡ g k) → some_below f n ≡ some_below g n
unfolding some_below
some_same f g zero h = refl
some_same f g (suc n) h = rw (some_same f g n (λ k l. h k (omega arith)), h n (omega arith))

pub first_none : (check : ℕ → Option Fault) → first_fault check 0 ≡ None
unfolding first_fault
first_none check = refl

-- the next check passes too
pub first_more : (check : ℕ → Option Fault) (n : ℕ) → first_fault check n ≡ None → check n ≡ None → first_fault check (n + 1) ≡ None
unfolding first_fault
first_more check n p q = rw (add-one, p, q)

-- a check that fails after passing ones is the first fault of them all
pub first_at : (check : ℕ → Option Fault) (e : Fault) (n m : ℕ) → first_fault check n ≡ None → check n ≡ Some e → n < m → first_fault check m ≡ Some e
unfolding first_fault
first_at check e n zero p q l = absurd (omega arith)
first_at check e n (suc m) p q l =
    elim (cases_lt n m) [
      | inl h ↦ rw (first_at check e n m p q h)
      | inr h ↦
          let s : n ≡ m = omega arith in
          let p' : first_fault check m ≡ None = subst (λ (x : ℕ). first_fault check x ≡ None) s p in
          let q' : check m ≡ Some e = subst (λ (x : ℕ). check x ≡ Some e) s q in
          rw (p', q')
    ]

pub or_some : {a : Option Fault} (b : Option Fault) {e : Fault} → a ≡ Some e → option_or a b ≡ Some e
or_some b p = rw p

pub or_none : {a : Option Fault} (b : Option Fault) → a ≡ None → option_or a b ≡ b
or_none b p = rw p

pub then_some_true : (test : Bool) (fault : Fault) → test ≡ true → then_some test fault ≡ Some fault
then_some_true test fault e = rw e

pub then_some_false : (test : Bool) (fault : Fault) → test ≡ false → then_some test fault ≡ None
then_some_false test fault e = rw e

pub then_some_none : (test : Bool) (fault : Fault) → then_some test fault ≡ None → test ≡ false
then_some_none true fault e = absurd (let z : ◌≡◌ {A = ℕ} 0 1 = cc in omega arith)
then_some_none false fault e = refl

pub option_or_none : (a b : Option Fault) → option_or a b ≡ None → (a ≡ None) × (b ≡ None)
option_or_none None b e = (refl, e)
option_or_none (Some fault) b e = absurd (let z : ◌≡◌ {A = ℕ} 0 1 = cc in omega arith)

-- where all checks find nothing, each finds nothing
pub none_at : (check : ℕ → Option Fault) (n m : ℕ) → first_fault check m ≡ None → n < m → check n ≡ None
unfolding first_fault
none_at check n zero p l = absurd (omega arith)
none_at check n (suc m) p l =
    let both = option_or_none (first_fault check m) (check m) p in
    elim (cases_lt n m) [
      | inl h ↦ none_at check n m both.0 h
      | inr h ↦ let s : n ≡ m = omega arith in subst (λ (x : ℕ). check x ≡ None) (sym s) both.1
    ]

-- where each check finds nothing, all find nothing
pub first_of_none : (check : ℕ → Option Fault) (n : ℕ) → ((i : ℕ) → i < n → check i ≡ None) → first_fault check n ≡ None
unfolding first_fault
first_of_none check zero f = refl
first_of_none check (suc n) f = rw (first_of_none check n (λ i h. f i (omega arith)), f n (omega arith))

-- the same checks have the same first fault
pub first_same : (f g : ℕ → Option Fault) (n : ℕ) → ((k : ℕ) → k < n → f k ≡ g k) → first_fault f n ≡ first_fault g n
unfolding first_fault
first_same f g zero h = refl
first_same f g (suc n) h = rw (first_same f g n (λ k l. h k (omega arith)), h n (omega arith))

-- more checks keep the first fault
pub first_stays : (f : ℕ → Option Fault) (e : Fault) (n m : ℕ) → first_fault f n ≡ Some e → n ≤ m → first_fault f m ≡ Some e
unfolding first_fault
first_stays f e n zero p l = let s : n ≡ 0 = omega arith in rw s at p
first_stays f e n (suc m) p l =
    elim (cases_lt m n) [
      | inl h ↦ let s : n ≡ suc m = omega arith in rw s at p
      | inr h ↦ rw (first_stays f e n m p h)
    ]

-- a later check counts only where the earlier one finds nothing
pub later_same : (x y z : Option Fault) → (x ≡ None → y ≡ z) → option_or x y ≡ option_or x z
later_same None y z h = h refl
later_same (Some fault) y z h = refl

-- a check that accepts found nothing
pub accepted : (x : Unit {0}) (found : Option Fault) → Ok x ≡ checked found → found ≡ None
accepted x None e = refl
accepted x (Some fault) e = absurd (let z : ◌≡◌ {A = ℕ} 0 1 = cc in omega arith)

-- a check that refuses found what it tells
pub refused : (fault : Fault) (found : Option Fault) → Err fault ≡ checked found → found ≡ Some fault
refused fault None e = absurd (let z : ◌≡◌ {A = ℕ} 0 1 = cc in omega arith)
refused fault (Some found) e = cc
