use Rattle.std.proofs.Common.{ap, ◌∙◌, ◌+◌, ◌-◌, ◌*◌}
use Rattle.iox_types.specs.Layouts.{as_usize}
use Rattle.iox_types.specs.Parts.{bytes_of_parts}
use Rattle.iox_hub.specs.Shapes.{part_of}
use Rattle.iox_hub.proofs.sizes.message_size.Goals as goal

pub returns : goal.returns
returns c =
    c.aligned.ensures (bytes_of_parts (part_of c.args.header) (part_of c.args.user) (part_of c.args.element) c.args.elements)
    (c.sum-bytes.ensures (c.args.header.size + c.args.user.size + (c.args.user.alignment - 1) + c.args.elements * c.args.element.size) (c.args.element.alignment - 1)
    (c.sum-filled.ensures (c.args.header.size + c.args.user.size + (c.args.user.alignment - 1)) (c.args.elements * c.args.element.size)
    (c.sum-before_elements.ensures (c.args.header.size + c.args.user.size) (c.args.user.alignment - 1)
    (c.sum-parts.ensures c.args.header.size c.args.user.size c.number.ensures c.number-2.ensures)
    (c.number-3.ensures ∙ ap as_usize c.saturating_sub.ensures))
    (c.product.ensures c.args.elements c.args.element.size c.number-4.ensures c.number-5.ensures))
    (c.number-6.ensures ∙ ap as_usize c.saturating_sub-2.ensures))
