-- Accepted orders.
use Rattle.std.proofs.Common.{◌≡◌, ℕ, ◌≤◌, List, ◌++◌, length, drop, replicate, None, Ok, refl, ap, ◌∙◌, ap₂, subst, sym, arith}
use Rattle.std.proofs.lemmas.Bool.{le-ltb}
use Rattle.price.specs.Kind.{Kind, Laws}
use Rattle.netlist.specs.Nets.{Net}
use Rattle.netlist.specs.Meaning.{Meaning, Sound, modules, own_nets}
use Rattle.cut.specs.Orders.{IsOrder, order}
use Rattle.cut.proofs.OrderFound.{order_is, order_is_the_only_one_lem}
use Rattle.cut.proofs.LastTwo.{order_last_parted}
use Rattle.partition.specs.Orders.{order_fault, last_price, OrderCall, LastTwoParted}
use Rattle.grouping.proofs.OwnNets.{own_there}

pub last_two_parted : {P : Type 0} (k : Kind P) → Laws k → (m : Meaning P) → Sound m → LastTwoParted k m
last_two_parted k l m s two =
    let nets = own_nets k m in
    let rule : IsOrder k nets (modules m) (order k nets (modules m)) = order_is k l nets (modules m) in
    record {
      list = order k nets (modules m);
      by_rule = rule;
      only = (order_is_the_only_one_lem k l nets (modules m)).1;
      last_two = order_last_parted k l nets (modules m) (own_there k m s) two (order k nets (modules m)) rule;
    }

accepted : (m cells bytes : ℕ) → m ≤ cells → m ≤ bytes → 2 ≤ m → order_fault m cells bytes ≡ None
accepted m cells bytes h i j = rw (le-ltb cells m h, le-ltb bytes m i, le-ltb m 2 j) refl

-- by the netlist's own nets, the order and the zeros before what stays
pub ordered : {P : Type 0} (k : Kind P) → Laws k → (m : Meaning P) (cells zeros : List P) (bytes list : List ℕ) (nets : List (Net P)) (n count : ℕ) (p : P)
    → nets ≡ own_nets k m → n ≡ modules m → count ≡ n → n ≤ length cells → n ≤ length bytes → 2 ≤ n
    → list ≡ order k nets count → zeros ≡ replicate count k.zero → p ≡ last_price k nets list
    → OrderCall k m cells (zeros ++ drop n cells) bytes (list ++ drop n bytes) (Ok p)
ordered k l m cells zeros bytes list nets n count p e d c h i j written zeroed priced =
    let same : list ≡ order k (own_nets k m) (modules m) = written ∙ ap₂ (λ xs (y : ℕ). order k xs y) e (c ∙ d) in
    rw (accepted (modules m) (length cells) (length bytes) (omega (arith, d, h)) (omega (arith, d, i)) (omega (arith, d, j)))
    (record {
      list = list;
      by_rule = subst (IsOrder k (own_nets k m) (modules m)) (sym same) (order_is k l (own_nets k m) (modules m));
      written = ap (λ (y : ℕ). list ++ drop y bytes) d;
      zeroed = ap (λ xs. xs ++ drop n cells) zeroed ∙ ap₂ (λ (x : ℕ) (y : ℕ). replicate x k.zero ++ drop y cells) (c ∙ d) d;
      answered = ap Ok (priced ∙ ap (λ xs. last_price k xs list) e);
    })
