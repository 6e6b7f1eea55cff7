use Rattle.std.proofs.Common.{◌≡◌, ◌∙◌, arith}
use Rattle.std.proofs.lemmas.Bool.{lt-ltb, le-ltb}
use Rattle.refusal.proofs.CheckLaws.{then_some_true, then_some_false}
use Rattle.page.specs.Faults.{bytes_to}
use Rattle.page.proofs.PadLaws.{pad_set, pad_clear}
use Rattle.page.proofs.check.check_pad.Goals as goal

pub returns-in-Some : goal.returns-in-Some
returns-in-Some c =
    let size : c.div_ceil-size.result ≡ bytes_to c.args.end = omega arith in
    let f = c.in-Some.ensures in
    record { cases = pad_set c.args.bytes.now c.args.end c.in-Some.bit f.0 (omega arith) f.2 f.3 }

pub returns-then-bytes-size : goal.returns-then-bytes-size
returns-then-bytes-size c =
    let size : c.div_ceil-size.result ≡ bytes_to c.args.end = omega arith in
    rw size (record { cases = pad_clear c.args.bytes.now c.args.end (rw size at c.in_default.ensures) ∙ then_some_true _ _ (lt-ltb _ _ (omega arith)) })

pub returns : goal.returns
returns c =
    let size : c.div_ceil-size.result ≡ bytes_to c.args.end = omega arith in
    record { cases = pad_clear c.args.bytes.now c.args.end (rw size at c.in_default.ensures) ∙ then_some_false _ _ (le-ltb _ _ (omega arith)) }
