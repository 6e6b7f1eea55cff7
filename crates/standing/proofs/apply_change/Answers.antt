use Rattle.std.proofs.Math.Nat.{ℕ_set}
use Rattle.std.proofs.Common.{◌≡◌, length, sym, ap, ◌∙◌, subst}
use Rattle.refusal.specs.Checks.{checked}
use Rattle.layers.specs.Layered.{strap_meaning, strap_sound, mute_meaning, mute_sound}
use Rattle.standing.specs.Standing.{apply, change_fault}
use Rattle.standing.proofs.Layering.{straps_apply_under, straps_checked, straps_refused, mutes_apply, mutes_checked, mutes_refused}
use Rattle.standing.proofs.apply_change.Goals as goal

pub returns-in-Strapped : goal.returns-in-Strapped
returns-in-Strapped g c =
    let means = strap_meaning g.N.Netlist.meaning in
    let old = c.args.layers.now in
    let a = c.in-Strapped.a in
    let b = c.in-Strapped.b in
    record {
      applies = straps_apply_under means old.below c.strap.new.self a b old.row c.strap.result c.strap.ensures.straps
          ∙ ap (λ change. apply change (mute_meaning means old)) (sym c.in-Strapped.is);
      checked = subst (λ change. c.strap.result ≡ checked (change_fault change (mute_meaning means old))) (sym c.in-Strapped.is)
          (straps_checked means old.below c.strap.new.self a b c.strap.result c.strap.ensures.straps);
      refused = straps_refused means a b old.below c.strap.new.self c.strap.result c.strap.ensures.straps
          (λ below. record { below = below; row = old.row; long = c.layers-1.given.0 }) old
          (ap (λ (long : length old.row ≡ 1024). record { below = old.below; row = old.row; long = long }) (ℕ_set (length old.row) 1024 c.layers-1.given.0 old.long));
      below = c.strap.ensures.below;
    }

pub returns-in-Muted : goal.returns-in-Muted
returns-in-Muted g c =
    let means = strap_meaning g.N.Netlist.meaning in
    let sound = strap_sound g.N.Netlist.meaning g.N.Netlist.sound in
    let old = c.args.layers.now in
    let net = c.in-Muted.net in
    record {
      applies = mutes_apply (mute_meaning means) old c.mute.new.self net c.mute.result (mute_sound means sound old) c.mute.ensures.mutes
          ∙ ap (λ change. apply change (mute_meaning means old)) (sym c.in-Muted.is);
      checked = subst (λ change. c.mute.result ≡ checked (change_fault change (mute_meaning means old))) (sym c.in-Muted.is)
          (mutes_checked (mute_meaning means) old c.mute.new.self net c.mute.result c.mute.ensures.mutes);
      refused = mutes_refused (mute_meaning means) net old c.mute.new.self c.mute.result c.mute.ensures.mutes;
      below = ap (λ strapped. strapped.below) c.mute.ensures.below;
    }
