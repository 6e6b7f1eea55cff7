-- Changes keep a meaning sound.
use Rattle.std.specs.Prelude.{◌≡◌, Bool, true, false, cond, ◌&&◌, List, [], ◌∷◌, nat_lt, refl}
use Rattle.std.proofs.Common.{◌≤◌, length, sym, subst, ⊎_elim}
use Rattle.std.proofs.lemmas.Bool.{cases_lt, ltb-true}
use Rattle.std.proofs.lemmas.List.{set_past}
use Rattle.netlist.specs.Meaning.{Meaning, Sound, homes}
use Rattle.netlist.specs.Changes.{strapped}
use Rattle.netlist.proofs.Straps.{straps_keep_sound_lem, mutes_keep_sound_lem}
use Rattle.standing.specs.declared.change.Change.{Change}
use Rattle.standing.specs.declared.change.Change.TheVariants.{Strapped, Muted}
use Rattle.standing.specs.Standing.{apply, applied}

pub apply_sound : {P : Type 0} (c : Change) (m : Meaning P) → Sound m → Sound (apply c m)
apply_sound {P} (Strapped a b) m s = by_guard (nat_lt a (homes m)) (nat_lt b (homes m)) refl refl
  where
    by_guard : (x y : Bool) → nat_lt a (homes m) ≡ x → nat_lt b (homes m) ≡ y → Sound (cond (x && y) (strapped a b m) m)
    by_guard true true p q = straps_keep_sound_lem P m a b s (ltb-true a (homes m) p) (ltb-true b (homes m) q)
    by_guard true false p q = s
    by_guard false y p q = s
apply_sound {P} (Muted n) m s = ⊎_elim
    (mutes_keep_sound_lem P m n s)
    (λ past. subst (λ marks. Sound (record { places = m.places; nets = m.nets; muted = marks }))
    (sym (set_past m.muted n true (subst (λ marked. marked ≤ n) (sym s.all_marked) past))) s)
    (cases_lt n (length m.nets))

pub applied_sound : {P : Type 0} (m : Meaning P) → Sound m → (cs : List Change) → Sound (applied m cs)
applied_sound m s [] = s
applied_sound m s (c ∷ cs) = apply_sound c (applied m cs) (applied_sound m s cs)
