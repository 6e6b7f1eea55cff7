-- What changes leave of a meaning, and which sides keep the groups once they are applied.
use Rattle.std.proofs.Common.{◌≡◌, ℕ, ◌<◌, Bool, true, false, cond, ◌&&◌, ltb, List, [], ◌∷◌, length, set, Some, None, Option, sym, refl, ap, ◌∙◌, subst, arith}
use lib.ListN.{length-map}
use Rattle.std.proofs.lemmas.Bool.{lt-ltb, and_from, cond-true}
use Rattle.refusal.specs.declared.Fault.{Fault}
use Rattle.refusal.proofs.CheckLaws.{option_or_none}
use Rattle.netlist.specs.Places.{place}
use Rattle.netlist.specs.Meaning.{Meaning, Sound, homes}
use Rattle.netlist.specs.Changes.{strapped, united, united_place}
use Rattle.netlist.specs.Strapping.{KeepsGroups}
use Rattle.netlist.proofs.Straps.{strapping}
use Rattle.layers.specs.Refusals.{strap_fault}
use Rattle.standing.specs.declared.change.Change.{Change}
use Rattle.standing.specs.declared.change.Change.TheVariants.{Strapped, Muted}
use Rattle.standing.specs.Standing.{apply, applied}
use Rattle.standing.specs.StandingSound.{applied_sound}
use Rattle.plan.specs.Reckoning.{Call, strap, mute, take_back, split, look, refusal, without_latest, changed, left_by, stand_after, stand}
use Rattle.plan.specs.Promise.{StrapsKept, marked}
use Rattle.standing.proofs.Layering.{strap_ends}

strapped_long : (a b : ℕ) (row : List ℕ) (t : Bool) → length (cond t row (united a b row)) ≡ length row
strapped_long a b row true = refl
strapped_long a b row false = length-map row (united_place a b)

module _ {P : Type 0} where
  nets_apply : (c : Change) (m : Meaning P) → (apply c m).nets ≡ m.nets
  nets_apply (Strapped a b) m = by_guard (ltb a (homes m) && ltb b (homes m))
    where
      by_guard : (t : Bool) → (cond t (strapped a b m) m).nets ≡ m.nets
      by_guard true = refl
      by_guard false = refl
  nets_apply (Muted n) m = refl

  homes_apply : (c : Change) (m : Meaning P) → homes (apply c m) ≡ homes m
  homes_apply (Strapped a b) m = by_guard (ltb a (homes m) && ltb b (homes m))
    where
      by_guard : (t : Bool) → homes (cond t (strapped a b m) m) ≡ homes m
      by_guard true = strapped_long (place m.places a) (place m.places b) m.places _
      by_guard false = refl
  homes_apply (Muted n) m = refl

  module _ (m : Meaning P) where
    pub nets_applied : (cs : List Change) → (applied m cs).nets ≡ m.nets
    nets_applied [] = refl
    nets_applied (c ∷ cs) = nets_apply c (applied m cs) ∙ nets_applied cs

    pub homes_applied : (cs : List Change) → homes (applied m cs) ≡ homes m
    homes_applied [] = refl
    homes_applied (c ∷ cs) = homes_apply c (applied m cs) ∙ homes_applied cs

    pub mutes_applied : (cs : List Change) → (applied m cs).muted ≡ marked m.muted cs
    mutes_applied [] = refl
    mutes_applied (Strapped a b ∷ cs) = by_guard (ltb a (homes (applied m cs)) && ltb b (homes (applied m cs))) ∙ mutes_applied cs
      where
        by_guard : (t : Bool) → (cond t (strapped a b (applied m cs)) (applied m cs)).muted ≡ (applied m cs).muted
        by_guard true = refl
        by_guard false = refl
    mutes_applied (Muted n ∷ cs) = ap (λ marks. set marks n true) (mutes_applied cs)

  module _ (m : Meaning P) where
    -- the ends of standing straps are home modules
    abbrev pub Named : List Change → Type 0
    Named [] = Unit {0}
    Named (Strapped a b ∷ cs) = ((a < homes m) × (b < homes m)) × Named cs
    Named (Muted n ∷ cs) = Named cs

    named_fewer : (cs : List Change) → Named cs → Named (without_latest cs)
    named_fewer [] h = tt
    named_fewer (Strapped a b ∷ cs) h = h.1
    named_fewer (Muted n ∷ cs) h = h

    named_changed : (cs : List Change) (call : Call) → Named cs → refusal m cs call ≡ None → Named (changed cs call)
    unfolding refusal
    named_changed cs (strap a b) h e =
        let q = strap_ends a b (applied m cs) (option_or_none (strap_fault a b (applied m cs)) _ e).0 in
        let same = homes_applied m cs in
        ((omega (arith, q.0), omega (arith, q.1)), h)
    named_changed cs (mute n) h e = h
    named_changed cs take_back h e = named_fewer cs h
    named_changed cs (split cells) h e = h
    named_changed cs look h e = h

    named_left : (r : Option Fault) (cs : List Change) (call : Call) → Named cs → refusal m cs call ≡ r → Named (left_by r cs call)
    named_left (Some fault) cs call h e = h
    named_left None cs call h e = named_changed cs call h e

    named_after : (cs : List Change) (calls : List Call) → Named cs → Named (stand_after m cs calls)
    named_after cs [] h = h
    named_after cs (call ∷ calls) h = named_after (left_by (refusal m cs call) cs call) calls (named_left (refusal m cs call) cs call h refl)

    pub named : (calls : List Call) → Named (stand m calls)
    named calls = named_after [] calls tt

    strap_applied : (a b : ℕ) (cs : List Change) → a < homes m → b < homes m → applied m (Strapped a b ∷ cs) ≡ strapped a b (applied m cs)
    strap_applied a b cs ha hb =
        let same = homes_applied m cs in
        cond-true (ltb a (homes (applied m cs)) && ltb b (homes (applied m cs))) (strapped a b (applied m cs)) (applied m cs)
        (and_from (ltb a (homes (applied m cs))) (ltb b (homes (applied m cs))) (lt-ltb a (homes (applied m cs)) (omega arith)) (lt-ltb b (homes (applied m cs)) (omega arith)))

    -- the sides that keep the groups with the changes applied are those that keep the groups below and each strap
    abbrev pub KeepsBoth : List Change → (ℕ → Bool) → Type 0
    KeepsBoth cs side =
        (KeepsGroups (applied m cs).places side → KeepsGroups m.places side × StrapsKept cs side)
        × (KeepsGroups m.places side → StrapsKept cs side → KeepsGroups (applied m cs).places side)

    pub keeps_both : Sound m → (cs : List Change) → Named cs → (side : ℕ → Bool) → KeepsBoth cs side
    keeps_both s [] h side = (λ kept. (kept, tt), λ kept _. kept)
    keeps_both s (Strapped a b ∷ cs) h side =
        let same = homes_applied m cs in
        let before = keeps_both s cs h.1 side in
        let one = strapping a b (applied m cs).places (applied_sound m s cs).numbered (omega (arith, h.0.0)) (omega (arith, h.0.1)) in
        let e = strap_applied a b cs h.0.0 h.0.1 in (
          λ kept.
              let kept_one = subst (λ n. KeepsGroups n.places side) e kept in
              let kept_before = before.0 (one.kept_before side kept_one) in
              (kept_before.0, (one.on_one_side side kept_one, kept_before.1)),
          λ kept straps. subst (λ n. KeepsGroups n.places side) (sym e) (one.kept_after side (before.1 kept straps.1) straps.0),
        )
    keeps_both s (Muted n ∷ cs) h side = keeps_both s cs h side
