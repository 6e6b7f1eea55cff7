use Rattle.std.proofs.Common.{◌≡◌, ℕ, ◌+◌, ◌<◌, List, length, map, get_or, set, drop, sym, ap, ◌∙◌, subst, ⊎_elim, arith}
use Rattle.std.proofs.lemmas.List.{get_or-drop, get_or-set_same, get_or-set_other, drop-set-lt, length-map, map-set}
use Rattle.std.proofs.lemmas.Bool.{cases_lt}
use Rattle.std.proofs.lemmas.Grind.{drop_more_same}
use Rattle.std.proofs.Math.ListN.{get_or-map}
use Rattle.grouping.specs.Masks.{UnitedSet}
use Rattle.grouping.proofs.masks.unite_masks.Goals as goal

-- where the sets from n on are as they were, and set n is united as well
united_more : {X : Type 0} (word : X → ℕ) (a b n : ℕ) (old now : List X) (mask d : X) → n < length now → drop n now ≡ drop n old → UnitedSet a b (word (get_or now n d)) (word mask)
    → ((i : ℕ) → i < n → UnitedSet a b (get_or (map word old) i (word d)) (get_or (map word now) i (word d)))
    → (i : ℕ) → i < n + 1 → UnitedSet a b (get_or (map word old) i (word d)) (get_or (map word (set now n mask)) i (word d))
united_more word a b n old now mask d inside rest united before i h =
    subst (λ words. UnitedSet a b (get_or (map word old) i (word d)) (get_or words i (word d))) (sym (map-set word now n mask))
    (⊎_elim
    (λ q. subst (UnitedSet a b (get_or (map word old) i (word d))) (sym (get_or-set_other (map word now) n i (word mask) (word d) (λ e. omega arith))) (before i q))
    (λ q.
    let at : n ≡ i = omega arith in
    let here : n + 0 ≡ n = omega arith in
    let same : get_or now n d ≡ get_or old n d = subst (λ (x : ℕ). get_or now x d ≡ get_or old x d) here (sym (get_or-drop n now 0 d) ∙ ap (λ xs. get_or xs 0 d) rest ∙ get_or-drop n old 0 d) in
    subst (λ (x : ℕ). UnitedSet a b (get_or (map word old) x (word d)) (get_or (set (map word now) n (word mask)) x (word d))) at
    (subst (UnitedSet a b (get_or (map word old) n (word d))) (sym (get_or-set_same (map word now) n (word mask) (word d) (omega (arith, inside, length-map now word))))
    (subst (λ (w : ℕ). UnitedSet a b w (word mask)) (ap word same ∙ sym (get_or-map word old n d)) united)))
    (cases_lt i n))

pub loop-mask-preserved : goal.loop-mask-preserved
loop-mask-preserved c =
    let n = c.loop-mask.mask-index in
    let now = c.loop-mask.masks in
    let inv = c.loop-mask.invariant in (
      united_more (λ mask. mask.word) c.args.a c.args.b n c.args.masks.now now c.united_mask.result (record { word = 0 }) (omega arith) inv.1 c.united_mask.ensures inv.0,
      drop-set-lt (n + 1) now n c.united_mask.result (omega arith) ∙ drop_more_same now c.args.masks.now n inv.1,
    )
