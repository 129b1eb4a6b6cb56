-- What is read stands within the bytes.
use Rattle.std.proofs.Common.{◌∙◌, sym, ap, Some, arith}
use Rattle.std.specs.Option.{option_map}
use Rattle.scq_frames.specs.Exports.{Part, part_of_view}
use Rattle.scq_frames.proofs.EncodedLemmas.{begins-room, part_at-found}
use Rattle.scq_frames.proofs.encoded.payload_len.Goals as goal

pub returns-clause-room : goal.returns-clause-room
returns-clause-room c =
    let part = part_of_view c.in_ok-read_part.field-0 in
    let bytes = c.args.bytes.now in
    (begins-room bytes part (part_at-found bytes part (λ i. omega (arith, c.type_inv.bytes i)) (sym c.in_ok-read_part.ensures)).0).0

pub returns-clause-bytes : goal.returns-clause-bytes
returns-clause-bytes c =
    let part = part_of_view c.in_ok-read_part.field-0 in
    let bytes = c.args.bytes.now in
    ap (option_map (λ (p : Part). p.payload)) (sym c.in_ok-read_part.ensures)
    ∙ ap Some (sym (begins-room bytes part (part_at-found bytes part (λ i. omega (arith, c.type_inv.bytes i)) (sym c.in_ok-read_part.ensures)).0).1)
