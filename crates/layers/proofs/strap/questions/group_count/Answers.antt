use Rattle.std.proofs.Common.{◌≡◌, ◌+◌, max, map, sym, ap, ◌∙◌, rules}
use Rattle.std.specs.List.{reduce}
use Rattle.std.specs.Option.{unwrap_or}
use Rattle.std.proofs.lemmas.Iterator.{YieldsList-from_slice, YieldsList-from_map}
use Rattle.std.proofs.lemmas.Iterator.Adapters.{option_map_id}
use Rattle.std.proofs.lemmas.Iterator.Consumers.{max_from_yields_List}
use Rattle.layers.proofs.Regrouping.{greatest_counted}
use Rattle.layers.proofs.strap.questions.group_count.Goals as goal

pub returns : goal.returns
returns c =
    let most : c.max.result ≡ reduce max (map (λ group. group + 1) c.args.row.now) =
    sym (option_map_id _)
    ∙ max_from_yields_List _ _ c.max.ensures.ran
    (YieldsList-from_map _ (λ group. group + 1) (YieldsList-from_slice c.args.row.now cc) c.map.ensures.closure (λ x r q k. search rules)) in
    c.unwrap_or.ensures ∙ ap (λ count. unwrap_or count 0) most ∙ greatest_counted c.args.row.now
