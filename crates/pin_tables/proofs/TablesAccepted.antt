-- What is known of tables that pass the checks.
use Rattle.std.proofs.Common.{◌≡◌, ℕ, zero, suc, ◌+◌, ◌<◌, ◌≤◌, false, not, eqb, List, length, get_or, Ok, sym, ap, subst, inl, inr, add-one, arith}
use Rattle.std.proofs.lemmas.Bool.{cases_lt, or_parts, not-false, eqb-true, ltb-false}
use Rattle.std.specs.Bool.{then_some}
use Rattle.refusal.specs.declared.Fault.TheVariants.{TablesDisagree}
use Rattle.refusal.specs.Checks.{checked}
use Rattle.bottom.specs.LoadFaults.{few_fault}
use Rattle.refusal.proofs.CheckLaws.{accepted, then_some_none, none_at}
use Rattle.pin_tables.specs.Tables.{disagree, few, Rising}

same : (a b : ℕ) → not (eqb a b) ≡ false → a ≡ b
same a b e = eqb-true a b (not-false (eqb a b) e)

pub tables_agree : (x : Unit {0}) (starts : List ℕ) (pins nets : ℕ) → Ok x ≡ checked (then_some (disagree starts pins nets) TablesDisagree)
    → (length starts ≡ nets + 1) × (get_or starts nets 0 ≡ pins)
tables_agree x starts pins nets e =
    let outer = or_parts _ _ (then_some_none _ _ (accepted x _ e)) in
    let inner = or_parts _ _ outer.1 in
    (same (length starts) (nets + 1) outer.0, same (get_or starts nets 0) pins inner.1)

-- what rises from step to step rises
climbs : (f : ℕ → ℕ) (n i : ℕ) → ((j : ℕ) → j < n → f j ≤ f (j + 1)) → i ≤ n → f i ≤ f n
climbs f zero i h l = let e : i ≡ 0 = omega arith in subst (λ (j : ℕ). f j ≤ f 0) (sym e) (omega arith)
climbs f (suc n) i h l =
    elim (cases_lt n i) [
      | inl k ↦ let e : i ≡ suc n = omega arith in subst (λ (j : ℕ). f j ≤ f (suc n)) (sym e) (omega arith)
      | inr k ↦ omega (arith, climbs f n i (λ j q. h j (omega arith)) k, h n (omega arith), ap f (add-one n))
    ]

pub tables_rise : (x : Unit {0}) (starts pins : List ℕ) (nets : ℕ) → Ok x ≡ checked (few_fault (few starts) nets) → get_or starts nets 0 ≡ length pins → Rising starts pins nets
tables_rise x starts pins nets e last net h =
    let step : (j : ℕ) → j < nets → get_or starts j 0 ≤ get_or starts (j + 1) 0 =
    λ j l. omega (arith, ltb-false _ _ (then_some_none (few starts j) _ (none_at _ j nets (accepted x (few_fault (few starts) nets) e) l))) in
    (step net h, omega (arith, climbs (λ (j : ℕ). get_or starts j 0) nets (net + 1) step (omega arith)))
