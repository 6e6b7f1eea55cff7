use Rattle.script.proofs.Grammar.{strap_said, strap_unsaid, unread}
use Rattle.script.proofs.parsing.parse_strap.Goals as goal

pub returns-in_err-a : goal.returns-in_err-a
returns-in_err-a c =
    rw c.from_residual-in_err-a.ensures (strap_unsaid _ _ _ _ c.in_ok-after_space.ensures c.in_ok-pieces.ensures (λ a b is_a is_b. unread _ a c.in_err-a.ensures is_a))

pub returns-in_err-b : goal.returns-in_err-b
returns-in_err-b c =
    rw c.from_residual-in_err-b.ensures (strap_unsaid _ _ _ _ c.in_ok-after_space.ensures c.in_ok-pieces.ensures (λ a b is_a is_b. unread _ b c.in_err-b.ensures is_b))

pub returns : goal.returns
returns c = strap_said _ _ _ _ _ _ c.in_ok-after_space.ensures c.in_ok-pieces.ensures c.in_ok-a.ensures c.in_ok-b.ensures
