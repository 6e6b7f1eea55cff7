-- `has`, `crosses` and `pulls` decide the relations that they test.
use Rattle.std.proofs.Common.{◌≡◌, ℕ, zero, suc, ◌<◌, true, false, ◌||◌, eqb, List, [], ◌∷◌, length, get_or, sym, ◌∙◌, inl, inr, ⊎_elim, arith}
use Rattle.std.specs.List.{ContainsAt as Has}
use Rattle.std.proofs.lemmas.Bool.{true≢false, false≢true, eqb-true, eq-eqb, or_cases, or_left, or_right}
use Rattle.cut.specs.Cuts.{has}
use Rattle.cut.specs.CutLaws.{CrossesTells, PullsTells}
use Rattle.cut.proofs.Members.{has_tail, has_at_head, has_cases, Member, any_member, member_any, every_member, members_every, crosses_by, crossing_pins, pulls_parts, pulls_from}

has_place : (xs : List ℕ) (p i : ℕ) → i < length xs → get_or xs i 0 ≡ p → has xs p ≡ true
has_place [] p i h e = absurd (omega arith)
has_place (x ∷ xs) p zero h e = has_at_head x xs p (sym e)
has_place (x ∷ xs) p (suc i) h e = has_tail x xs p (has_place xs p i (omega arith) e)

pub has_from : (xs : List ℕ) (p : ℕ) → Has xs p → has xs p ≡ true
has_from xs p h = has_place xs p h.0 h.1 (h.2 0)

pub has_there : (xs : List ℕ) (p : ℕ) → has xs p ≡ true → Has xs p
has_there [] p h = absurd (false≢true h)
has_there (x ∷ xs) p h = ⊎_elim
    (λ e. (0, omega arith, λ d. sym e))
    (λ e. (let r : Has xs p = has_there xs p e in (suc r.0, omega (arith, r.1), r.2)))
    (has_cases x xs p h)

pub crosses_tells : CrossesTells
crosses_tells side pins = (
  (λ h.
      let r : Member pins (λ p. side p ≡ true) × Member pins (λ q. side q ≡ false) = crossing_pins side pins h in
      record { on_a = (r.1.0, has_there pins r.1.0 r.1.1, r.1.2); on_b = (r.0.0, has_there pins r.0.0 r.0.1, r.0.2) }),
  (λ b.
      crosses_by side pins b.on_a.0 b.on_b.0 (has_from pins b.on_a.0 b.on_a.1) (has_from pins b.on_b.0 b.on_b.1)
      (λ e. true≢false (sym b.on_b.2 ∙ (sym e ∙ b.on_a.2)))),
)

pub pulls_tells : PullsTells
pulls_tells v among pins = (
  (λ h.
      let a = pulls_parts v among pins h in
      let q : Member pins (λ p. among p ≡ true) = any_member among pins a.1 in
      record {
        at_v = has_there pins v a.0;
        in_set = (q.0, has_there pins q.0 q.1, q.2);
        none_elsewhere = λ p i.
            ⊎_elim (λ e. inl (eqb-true p v e)) inr (or_cases (eqb p v) (among p) (every_member (λ x. eqb x v || among x) pins p a.2 (has_from pins p i)));
      }),
  (λ b.
      pulls_from v among pins (has_from pins v b.at_v) (member_any among pins b.in_set.0 (has_from pins b.in_set.0 b.in_set.1) b.in_set.2)
      (members_every (λ p. eqb p v || among p) pins (λ p i.
      ⊎_elim (λ e. or_left (eqb p v) (among p) (eq-eqb p v e)) (λ e. or_right (eqb p v) (among p) e) (b.none_elsewhere p (has_there pins p i))))),
)
