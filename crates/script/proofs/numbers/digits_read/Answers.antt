use Rattle.std.proofs.Common.{rules, arith}
use Rattle.script.proofs.Digits.{read_none, read_more, read_all, not_digits, read_fits}
use Rattle.script.proofs.numbers.digits_read.Goals as goal

pub loop-byte-init : goal.loop-byte-init
loop-byte-init c = read_none c.args.bytes.now

pub loop-byte-preserved : goal.loop-byte-preserved
loop-byte-preserved c = search (rules, read_more c.loop-byte.byte-index c.loop-byte.number c.args.bytes.now c.loop-byte-test.true c.loop-byte.invariant)

pub returns-in_err-digit : goal.returns-in_err-digit
returns-in_err-digit c = rw c.from_residual.ensures (not_digits c.loop-byte.byte-index c.loop-byte.number c.args.bytes.now c.loop-byte-test.true c.loop-byte.invariant (search rules))

pub returns : goal.returns
returns c = read_all c.loop-byte.byte-index c.loop-byte.number c.args.bytes.now c.loop-byte-test.false c.loop-byte.invariant

pub overflow_mul-number : goal.overflow_mul-number
overflow_mul-number c = omega (arith, read_fits c.loop-byte.byte-index c.loop-byte.number c.args.bytes.now c.loop-byte-test.true c.loop-byte.invariant c.requires)

pub overflow_add-number : goal.overflow_add-number
overflow_add-number c = omega (arith, read_fits c.loop-byte.byte-index c.loop-byte.number c.args.bytes.now c.loop-byte-test.true c.loop-byte.invariant c.requires, c.in_ok-digit.ensures.value)
