-- A strap keeps a row numbered and asks of sides that its ends are on one side; straps and mutes keep a meaning sound.
use Rattle.std.proofs.Common.{◌≡◌, ℕ, ◌<◌, ◌≤◌, Bool, true, false, cond, eqb, List, length, sym, refl, ◌∙◌, subst, inl, inr, ⊎_elim, length-set}
use Rattle.std.specs.List.{AllByRecursion}
use Rattle.std.proofs.lemmas.Bool.{eqb-true, eqb-false}
use Rattle.netlist.specs.Nets.{OnPins}
use Rattle.netlist.specs.Places.{place, Numbered}
use Rattle.netlist.specs.Changes.{united, strapped_row}
use Rattle.netlist.specs.Uniting.{InEither, United}
use Rattle.netlist.specs.Strapping.{KeepsGroups, Strapped, Strapping, StrapsKeepSound, MutesKeepSound}
use Rattle.netlist.proofs.Numbering.{place_below_groups, uniting}

module _ (i j : ℕ) (row : List ℕ) (hi : i < length row) (hj : j < length row) where
  strapped_united : (new : List ℕ) → United (place row i) (place row j) row new → Strapped i j row new
  strapped_united new u = record {
    as_long = u.as_long;
    numbered = u.numbered;
    kept_before = λ side h x y hx hy e. h x y (longer x hx) (longer y hy) (u.kept x y hx hy e);
    on_one_side = λ side h. h i j (longer i hi) (longer j hj) (u.joined i j hi hj (inl refl) (inr refl));
    kept_after = λ side h e x y hx hy q.
        ⊎_elim (λ r. h x y (shorter x hx) (shorter y hy) r)
        (λ r. like_j side h e x (shorter x hx) r.0 ∙ sym (like_j side h e y (shorter y hy) r.1))
        (u.no_others x y (shorter x hx) (shorter y hy) q);
  }
    where
      longer : (x : ℕ) → x < length row → x < length new
      longer x h = subst (λ z. x < z) (sym u.as_long) h

      shorter : (x : ℕ) → x < length new → x < length row
      shorter x h = subst (λ z. x < z) u.as_long h

      like_j : (side : ℕ → Bool) → KeepsGroups row side → side i ≡ side j → (x : ℕ) → x < length row → InEither (place row i) (place row j) row x → side x ≡ side j
      like_j side h e x hx o = ⊎_elim (λ r. h x i hx hi r ∙ e) (λ r. h x j hx hj r) o

  pub strapping_row : Numbered 0 row → Strapped i j row (strapped_row i j row)
  strapping_row w = go (eqb (place row i) (place row j)) refl
    where
      go : (b : Bool) → eqb (place row i) (place row j) ≡ b → Strapped i j row (cond b row (united (place row i) (place row j) row))
      go true e = record {
        as_long = refl;
        numbered = w;
        kept_before = λ side h. h;
        on_one_side = λ side h. h i j hi hj (eqb-true (place row i) (place row j) e);
        kept_after = λ side h _. h;
      }
      go false e = strapped_united (united (place row i) (place row j) row)
          (uniting (place row i) (place row j) row w (place_below_groups row i hi) (place_below_groups row j hj) (eqb-false (place row i) (place row j) e))

pub strapping : Strapping
strapping i j row w hi hj = strapping_row i j row hi hj w

pub straps_keep_sound_lem : (P : Type 0) → StrapsKeepSound P
straps_keep_sound_lem P m i j s hi hj =
    let r : Strapped i j m.places (strapped_row i j m.places) = strapping i j m.places s.numbered hi hj in
    record {
      few_homes = subst (λ z. z ≤ 64) (sym r.as_long) s.few_homes;
      numbered = r.numbered;
      few_nets = s.few_nets;
      all_marked = s.all_marked;
      few_pins = s.few_pins;
      pins_there = subst (λ z. OnPins (AllByRecursion (λ pin. pin < z)) m.nets) (sym r.as_long) s.pins_there;
    }

pub mutes_keep_sound_lem : (P : Type 0) → MutesKeepSound P
mutes_keep_sound_lem P m n s h = record {
  few_homes = s.few_homes;
  numbered = s.numbered;
  few_nets = s.few_nets;
  all_marked = length-set m.muted n true ∙ s.all_marked;
  few_pins = s.few_pins;
  pins_there = s.pins_there;
}
