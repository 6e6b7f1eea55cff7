-- When a strap or a mute is refused, from what the questions answer.
use Rattle.std.proofs.Common.{◌≡◌, ℕ, ◌<◌, ◌≤◌, Bool, true, false, ltb, length, get_or, Some, None, Ok, sym, ◌∙◌, arith}
use Rattle.std.specs.List.{slice_get}
use Rattle.std.proofs.lemmas.Bool.{lt-ltb, le-ltb, cond-true, cond-false}
use Rattle.std.proofs.lemmas.Bool.Decides.{nat_tests}
use Rattle.refusal.specs.declared.Fault.TheVariants.{NoSuchHomeModule, AlreadyTogether, NoSuchNet, AlreadyMuted}
use Rattle.netlist.specs.Places.{place}
use Rattle.netlist.specs.Meaning.{Meaning, Sound, homes}
use Rattle.layers.specs.Refusals.{strap_fault, mute_fault, HomePlace, Ends}
use Rattle.layers.proofs.Nth.{nth_there, nth_absent}

module _ {P : Type 0} (a b : ℕ) (m : Meaning P) where
  pub first_absent : homes m ≤ a → strap_fault a b m ≡ Some NoSuchHomeModule
  first_absent absent = grind (arith, nat_tests)

  pub second_absent : homes m ≤ b → strap_fault a b m ≡ Some NoSuchHomeModule
  second_absent absent = grind (arith, nat_tests)

  module _ (v w : ℕ) (first : HomePlace a m (Ok v)) (second : HomePlace b m (Ok w)) where
    pub strap_together : v ≡ w → strap_fault a b m ≡ Some AlreadyTogether
    strap_together same =
        let there = first.0 in
        let there_too = second.0 in
        let together : place m.places a ≡ place m.places b = sym first.1 ∙ same ∙ second.1 in
        grind (arith, nat_tests)

    pub strap_apart : (v ≡ w → ⊥) → Ends a b m (Ok (v, w))
    strap_apart differ =
        let there = first.0 in
        let there_too = second.0 in
        let apart : place m.places a ≡ place m.places b → ⊥ = λ same. differ (first.1 ∙ same ∙ sym second.1) in
        (grind (arith, nat_tests), first.1, second.1)

module _ {P : Type 0} (m : Meaning P) (sound : Sound m) (n : ℕ) where
  pub marked_there : (mark : Bool) → Some mark ≡ slice_get m.muted n → n < length m.nets
  marked_there mark e = omega (arith, (nth_there m.muted n mark false e).0, sound.all_marked)

  pub net_absent : None ≡ slice_get m.muted n → mute_fault n m ≡ Some NoSuchNet
  net_absent e =
      cond-false (ltb n (length m.nets)) _ (Some NoSuchNet) (le-ltb n (length m.nets) (omega (arith, nth_absent m.muted n e, sound.all_marked)))

  pub already_muted : (mark : Bool) → mark ≡ true → Some mark ≡ slice_get m.muted n → mute_fault n m ≡ Some AlreadyMuted
  already_muted mark muted e =
      cond-true (ltb n (length m.nets)) _ (Some NoSuchNet) (lt-ltb n (length m.nets) (marked_there mark e))
      ∙ cond-true (get_or m.muted n false) (Some AlreadyMuted) None (sym (nth_there m.muted n mark false e).1 ∙ muted)

  pub may_be_muted : (mark : Bool) → mark ≡ false → Some mark ≡ slice_get m.muted n → mute_fault n m ≡ None
  may_be_muted mark unmuted e =
      cond-true (ltb n (length m.nets)) _ (Some NoSuchNet) (lt-ltb n (length m.nets) (marked_there mark e))
      ∙ cond-false (get_or m.muted n false) (Some AlreadyMuted) None (sym (nth_there m.muted n mark false e).1 ∙ unmuted)

pub unmuted_there : {P : Type 0} (m : Meaning P) (n : ℕ) → mute_fault n m ≡ None → n < length m.nets
unmuted_there m n free = grind (arith, nat_tests)
