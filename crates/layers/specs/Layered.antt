-- What a strap layer and a mute layer mean, by what they stand on and their own rows.
use Rattle.std.specs.Prelude.{◌≡◌, suc, ◌<◌, Bool, ◌||◌, List, [], ◌∷◌, length, refl}
use Rattle.std.proofs.Common.{sym, ap, subst, ◌∙◌, arith}
use Rattle.std.proofs.lemmas.List.{length-map}
use Rattle.std.specs.List.{AllByRecursion}
use Rattle.netlist.specs.Nets.{OnPins}
use Rattle.netlist.specs.Places.{place}
use Rattle.netlist.specs.Meaning.{Meaning, Sound}
use Rattle.layers.specs.declared.strap.StrapLayer.{StrapLayer}
use Rattle.layers.specs.declared.mute.MuteLayer.{MuteLayer}
use Rattle.layers.specs.Rows.{regrouped, regrouped_numbered, places_few}

-- each place below is replaced by its group
abbrev pub strap_meaning : {P N : Type 0} → (N → Meaning P) → StrapLayer N → Meaning P
strap_meaning below layer =
    let m = below layer.below in
    record { places = regrouped layer.row m.places; nets = m.nets; muted = m.muted }

-- muted below or in the row
abbrev pub muted_by_either : List Bool → List Bool → List Bool
muted_by_either [] row = []
muted_by_either (mark ∷ marks) [] = mark ∷ marks
muted_by_either (mark ∷ marks) (own ∷ row) = (mark || own) ∷ muted_by_either marks row

abbrev pub mute_meaning : {P N : Type 0} → (N → Meaning P) → MuteLayer N → Meaning P
mute_meaning below layer =
    let m = below layer.below in
    record { places = m.places; nets = m.nets; muted = muted_by_either m.muted layer.row }

pub strap_sound : {P N : Type 0} (below : N → Meaning P) → ((n : N) → Sound (below n)) → (layer : StrapLayer N) → Sound (strap_meaning below layer)
strap_sound below sound layer =
    let m = below layer.below in
    let s = sound layer.below in
    let few = s.few_homes in
    let long = layer.long in
    let same : length (regrouped layer.row m.places) ≡ length m.places = length-map m.places (place layer.row) in
    record {
      few_homes = omega arith;
      numbered = regrouped_numbered layer.row layer.numbered m.places 0 (places_few m.places 0 (length layer.row) (omega arith) s.numbered) s.numbered;
      few_nets = s.few_nets;
      all_marked = s.all_marked;
      few_pins = s.few_pins;
      pins_there = subst (λ n. OnPins (AllByRecursion (λ pin. pin < n)) m.nets) (sym same) s.pins_there;
    }

pub length_muted_by_either : (marks row : List Bool) → length (muted_by_either marks row) ≡ length marks
length_muted_by_either [] row = refl
length_muted_by_either (mark ∷ marks) [] = refl
length_muted_by_either (mark ∷ marks) (own ∷ row) = ap suc (length_muted_by_either marks row)

pub mute_sound : {P N : Type 0} (below : N → Meaning P) → ((n : N) → Sound (below n)) → (layer : MuteLayer N) → Sound (mute_meaning below layer)
mute_sound below sound layer =
    let s = sound layer.below in
    record {
      few_homes = s.few_homes;
      numbered = s.numbered;
      few_nets = s.few_nets;
      all_marked = length_muted_by_either (below layer.below).muted layer.row ∙ s.all_marked;
      few_pins = s.few_pins;
      pins_there = s.pins_there;
    }
