use Rattle.std.proofs.Common.{◌≡◌, ℕ, ◌<◌, map, drop, slice_index}
use Rattle.grouping.specs.Masks.{UnitedSet}
use Rattle.grouping.proofs.masks.unite_masks.Given as goal

abbrev pub invariant-loop-mask : goal.invariant-loop-mask
invariant-loop-mask l =
    ((i : ℕ) → i < l.mask-index → UnitedSet l.a l.b (slice_index (map (λ mask. mask.word) l.initial.masks) i) (slice_index (map (λ mask. mask.word) l.masks) i))
    × (drop l.mask-index l.masks ≡ drop l.mask-index l.initial.masks)
