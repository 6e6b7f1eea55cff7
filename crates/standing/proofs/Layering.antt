-- Strapping and muting layers does to their meaning what a change does, also where the layers refuse it.
use Rattle.std.proofs.Common.{◌≡◌, ℕ, zero, suc, ◌+◌, ◌<◌, Bool, true, false, cond, ◌&&◌, eqb, ltb, List, [], ◌∷◌, reverse, take, length, get_or, set, Some, None, Ok, Err, Result, IfErr, sym, refl, ap, ◌∙◌, arith}
use Rattle.std.proofs.lemmas.List.{take_more, reverse-append}
use Rattle.std.proofs.lemmas.Bool.{lt-ltb, and_from, cond-true}
use Rattle.std.proofs.lemmas.Bool.Decides.{nat_tests}
use Rattle.std.proofs.lemmas.Option.{none-some}
use Rattle.refusal.specs.declared.Fault.{Fault}
use Rattle.refusal.specs.declared.Fault.TheVariants.{NoSuchHomeModule, AlreadyTogether, NoSuchNet, AlreadyMuted}
use Rattle.refusal.specs.Checks.{checked}
use Rattle.netlist.specs.Places.{place}
use Rattle.netlist.specs.Meaning.{Meaning, Sound, homes}
use Rattle.netlist.specs.Changes.{strapped, united, muted_also}
use Rattle.layers.specs.Layered.{muted_by_either}
use Rattle.layers.specs.Refusals.{strap_fault, mute_fault}
use Rattle.layers.specs.Changed.{Straps, Mutes}
use Rattle.standing.specs.declared.change.Change.{Change}
use Rattle.standing.specs.declared.change.Change.TheVariants.{Strapped, Muted}
use Rattle.standing.specs.Standing.{apply, applied}

set_again : (marks : List Bool) (n : ℕ) → (n < length marks → get_or marks n false ≡ true) → marks ≡ set marks n true
set_again [] n h = refl
set_again (mark ∷ marks) zero h = ap (λ z. z ∷ marks) (h (omega arith))
set_again (mark ∷ marks) (suc n) h = ap (λ z. mark ∷ z) (set_again marks n (λ low. h (omega arith)))

module _ {P : Type 0} where
  -- an accepted strap names home modules
  pub strap_ends : (a b : ℕ) (m : Meaning P) → strap_fault a b m ≡ None → (a < homes m) × (b < homes m)
  strap_ends a b m free = (grind (arith, nat_tests), grind (arith, nat_tests))

  -- a strap that is refused would change nothing
  strap_stays : (a b : ℕ) (m : Meaning P) (fault : Fault) → strap_fault a b m ≡ Some fault → m ≡ apply (Strapped a b) m
  strap_stays a b m fault e = by_guard (ltb a (homes m) && ltb b (homes m)) (eqb (place m.places a) (place m.places b)) refl e
    where
      by_guard : (t u : Bool) → eqb (place m.places a) (place m.places b) ≡ u → cond t (cond u (Some AlreadyTogether) None) (Some NoSuchHomeModule) ≡ Some fault
          → m ≡ cond t (strapped a b m) m
      by_guard true true q h =
          ap (λ row. record { places = row; nets = m.nets; muted = m.muted })
          (sym (cond-true (eqb (place m.places a) (place m.places b)) m.places (united (place m.places a) (place m.places b) m.places) q))
      by_guard true false q h = absurd (none-some fault h)
      by_guard false u q h = refl

  strap_changes : (a b : ℕ) (m : Meaning P) → strap_fault a b m ≡ None → strapped a b m ≡ apply (Strapped a b) m
  strap_changes a b m free =
      let ends = strap_ends a b m free in
      sym (cond-true (ltb a (homes m) && ltb b (homes m)) (strapped a b m) m
      (and_from (ltb a (homes m)) (ltb b (homes m)) (lt-ltb a (homes m) ends.0) (lt-ltb b (homes m) ends.1)))

  mute_stays : (n : ℕ) (m : Meaning P) (fault : Fault) → Sound m → mute_fault n m ≡ Some fault → m ≡ muted_also n m
  mute_stays n m fault s e = ap (λ marks. record { places = m.places; nets = m.nets; muted = marks }) (set_again m.muted n muted_there)
    where
      by_mark : (t : Bool) → get_or m.muted n false ≡ t → cond t (Some AlreadyMuted) None ≡ Some fault → get_or m.muted n false ≡ true
      by_mark true q h = q
      by_mark false q h = absurd (none-some fault h)

      muted_there : n < length m.muted → get_or m.muted n false ≡ true
      muted_there low =
          let same = s.all_marked in
          by_mark (get_or m.muted n false) refl
          (sym (cond-true (ltb n (length m.nets)) (cond (get_or m.muted n false) (Some AlreadyMuted) None) (Some NoSuchNet) (lt-ltb n (length m.nets) (omega arith))) ∙ e)

  module _ {L : Type 0} (means : L → Meaning P) (old new : L) where
    -- what the layers tell of a strap and of a mute
    pub straps_checked : (a b : ℕ) (r : Result (Unit {0}) Fault) → Straps means a b old new r → r ≡ checked (strap_fault a b (means old))
    straps_checked a b (Ok _) h = sym (ap checked h.0)
    straps_checked a b (Err fault) h = sym (ap checked h.0)

    pub mutes_checked : (n : ℕ) (r : Result (Unit {0}) Fault) → Mutes means n old new r → r ≡ checked (mute_fault n (means old))
    mutes_checked n (Ok _) h = sym (ap checked h.0)
    mutes_checked n (Err fault) h = sym (ap checked h.0)

    straps_apply : (a b : ℕ) (r : Result (Unit {0}) Fault) → Straps means a b old new r → means new ≡ apply (Strapped a b) (means old)
    straps_apply a b (Ok _) h = h.1 ∙ strap_changes a b (means old) h.0
    straps_apply a b (Err fault) h = ap means h.1 ∙ strap_stays a b (means old) fault h.0

    pub mutes_apply : (n : ℕ) (r : Result (Unit {0}) Fault) → Sound (means old) → Mutes means n old new r → means new ≡ apply (Muted n) (means old)
    mutes_apply n (Ok _) s h = h.1
    mutes_apply n (Err fault) s h = ap means h.1 ∙ mute_stays n (means old) fault s h.0

    -- a strap below a row of mutes
    abbrev under : List Bool → Meaning P → Meaning P
    under row m = record { places = m.places; nets = m.nets; muted = muted_by_either m.muted row }

    pub straps_apply_under : (a b : ℕ) (row : List Bool) (r : Result (Unit {0}) Fault) → Straps means a b old new r → under row (means new) ≡ apply (Strapped a b) (under row (means old))
    straps_apply_under a b row r h = ap (under row) (straps_apply a b r h) ∙ by_guard (ltb a (homes (means old)) && ltb b (homes (means old)))
      where
        by_guard : (t : Bool) → under row (cond t (strapped a b (means old)) (means old)) ≡ cond t (strapped a b (under row (means old))) (under row (means old))
        by_guard true = refl
        by_guard false = refl

-- refused, both layers are what they were, and so is what stands on them
pub straps_refused : {P L T : Type 0} (means : L → Meaning P) (a b : ℕ) (old new : L) (r : Result (Unit {0}) Fault) → Straps means a b old new r
    → (above : L → T) (kept : T) → above old ≡ kept → IfErr r (λ fault. above new ≡ kept)
straps_refused means a b old new (Ok tt) h above kept e = tt
straps_refused means a b old new (Err fault) h above kept e = ap above h.1 ∙ e

pub mutes_refused : {P L : Type 0} (means : L → Meaning P) (n : ℕ) (old new : L) (r : Result (Unit {0}) Fault) → Mutes means n old new r → IfErr r (λ fault. new ≡ old)
mutes_refused means n old new (Ok tt) h = tt
mutes_refused means n old new (Err fault) h = h.1

-- one change more of a list is applied
pub next_applied : {P : Type 0} (m n : Meaning P) (changes : List Change) (i : ℕ) → i < length changes → n ≡ applied m (reverse (take i changes))
    → apply (get_or changes i (Strapped 0 0)) n ≡ applied m (reverse (take (i + 1) changes))
next_applied m n changes i h e =
    let c = get_or changes i (Strapped 0 0) in
    ap (apply c) e ∙ sym (ap (λ cs. applied m (reverse cs)) (take_more changes i (Strapped 0 0) h) ∙ ap (applied m) (reverse-append (take i changes) (c ∷ [])))
