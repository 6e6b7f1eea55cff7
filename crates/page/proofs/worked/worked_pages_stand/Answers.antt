use Rattle.std.proofs.Common.{refl}
use Rattle.refusal.specs.declared.Fault.TheVariants.{PageEnds, AfterLastNet}
use Rattle.page.specs.Bits.{field_at}
use Rattle.page.specs.Layout.{net_bit, net_pins, pins_table, starts_table, prices_table}
use Rattle.refusal.specs.Checks.{some_below, first_fault}
use Rattle.page.specs.Faults.{pin_fault, net_fault, pad_fault, page_fault, unpack_fault}
use Rattle.page.proofs.worked.worked_pages_stand.Goals as goal

pub returns : goal.returns
unfolding field_at net_bit net_pins pins_table starts_table prices_table some_below first_fault pin_fault net_fault pad_fault page_fault unpack_fault
returns c = (
  record { no_fault = refl; modules_are = refl; starts_are = refl; pins_are = refl; prices_are = refl },
  (
    record { fault = AfterLastNet 127; told = λ s p q. refl; number_is = refl; place_is = refl },
    (
      record { fault = PageEnds 92; told = λ s p q. refl; number_is = refl; place_is = refl },
      tt,
    ),
  ),
)
