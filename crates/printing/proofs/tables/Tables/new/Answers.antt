use Rattle.printing.proofs.tables.Tables.new.Goals as goal

-- the check finds this alone too, but runs out of memory where a room is wrong
pub invariant_of-result : goal.invariant_of-result
invariant_of-result g c = record {
  starts_room = c.in_ok-vec.ensures.len;
  pins_room = c.in_ok-vec-2.ensures.len;
  prices_room = c.in_ok-zeros.ensures.len;
  cells_room = c.in_ok-zeros-2.ensures.len;
}

pub returns-clause-pins : goal.returns-clause-pins
returns-clause-pins g c = c.in_ok-vec-2.ensures.items_if_clones_equal (λ y e. e)
