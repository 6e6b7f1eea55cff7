use Rattle.std.proofs.Common.{◌≡◌, ℕ, List, ◌+◌, ◌-◌, ◌++◌, take, replicate, sym, ap, ◌∙◌, subst, rules}
use Rattle.std.specs.Io.KnownBytes.{Consumes}
use Rattle.streams.proofs.Filling.{filled_within, kept_first, few_more}
use Rattle.streams.proofs.reading.read_first.Goals as goal

pub returns-in_err-count-clause-few : goal.returns-in_err-count-clause-few
returns-in_err-count-clause-few g c =
    let left = g.R.Read.remaining in
    let count = c.loop-count.count in
    let part = c.resize.new.self.len - count in
    few_more c.args.most part (left c.args.reader.now) (left c.loop-count.reader) (left c.fill.new.reader) (take count c.loop-count.bytes.items) (search rules) (search rules) (search rules)

pub loop-count-preserved : goal.loop-count-preserved
loop-count-preserved g c =
    let left = g.R.Read.remaining in
    let count = c.loop-count.count in
    let more = c.in_ok-count.field-0 in
    let row = c.as_mut_slice.result.now in
    let had = c.loop-count.bytes.items in
    let room = count + c.min.result in
    let zeros : List ℕ = replicate (room - c.loop-count.bytes.len) 0 in
    let grown : row ≡ take room had ++ zeros = search rules in
    let begins = ap (take count) grown ∙ kept_first count room had zeros (search rules) (search rules) in (
      search rules,
      search rules,
      search rules,
      filled_within count more _ row c.fill.new.row (search rules) (search rules) (left c.args.reader.now) (left c.loop-count.reader) (left c.fill.new.reader) (subst (Consumes (left c.args.reader.now) (left c.loop-count.reader)) (sym begins) (search rules)) (search rules) c.resize.new.self.len _ (search rules),
      search rules,
    )
