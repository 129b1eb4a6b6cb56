use Rattle.std.proofs.Common.{◌≡◌, ◌∙◌, sym, subst, ap, arith, ℕ, List, ◌++◌, ◌+◌, ◌<◌, length, take, drop}
use Rattle.std.specs.Prelude.{Vec, slice_index_or}
use Rattle.std.specs.Global.{Global}
use Rattle.std.proofs.lemmas.Grind.{flat_map-append}
use Rattle.std.proofs.lemmas.List.{drop_more, take-append-drop, take_all}
use Rattle.std.proofs.lemmas.List.Concat.{flat_map-cons}
use Rattle.scq_collect.specs.Exports.{pieces_bytes}
use Rattle.scq_service.specs.Exports.{WrotePart, written_with}
use Rattle.scq_service.proofs.Writings.{part-first, part-second}
use Rattle.scq_service.proofs.writing.write_pieces.Goals as goal

-- the pieces are those up to one, it, and the rest
cut-at : (pieces : List (Vec ℕ Global)) (i : ℕ) (piece : Vec ℕ Global) → i < length pieces → piece ≡ slice_index_or pieces i piece
    → pieces_bytes pieces ≡ pieces_bytes (take i pieces) ++ (piece.items ++ pieces_bytes (drop (i + 1) pieces))
cut-at pieces i piece within is =
    let items : Vec ℕ Global → List ℕ = λ p. p.items in
    sym (ap pieces_bytes (take-append-drop i pieces)) ∙ flat_map-append items (take i pieces) (drop i pieces)
    ∙ ap (λ (rest : List (Vec ℕ Global)). pieces_bytes (take i pieces) ++ pieces_bytes rest) (drop_more pieces i piece within)
    ∙ ap (λ (rest : List ℕ). pieces_bytes (take i pieces) ++ rest) (flat_map-cons items (slice_index_or pieces i piece) (drop (i + 1) pieces))
    ∙ ap (λ (p : Vec ℕ Global). pieces_bytes (take i pieces) ++ (p.items ++ pieces_bytes (drop (i + 1) pieces))) (sym is)

pub returns-in_err-write_all-clause-part : goal.returns-in_err-write_all-clause-part
returns-in_err-write_all-clause-part g c =
    let pieces = c.args.pieces.now in
    let i = c.loop-piece.piece-index in
    let piece = c.piece-item.result in
    let old = g.K.Sink.written c.args.sink.now in
    let new = g.K.Sink.written c.write_all.new.sink in
    let here : WrotePart (g.K.Sink.written c.loop-piece.sink) new piece.items =
    subst (WrotePart (g.K.Sink.written c.loop-piece.sink) new) c.as_slice.ensures.value c.write_all.ensures.part in
    subst (WrotePart old new) (sym (cut-at pieces i piece c.loop-piece-test.true c.piece-item.is))
    (part-second old (g.K.Sink.written c.loop-piece.sink) new (pieces_bytes (take i pieces)) (piece.items ++ pieces_bytes (drop (i + 1) pieces))
    c.loop-piece.invariant.written (part-first (g.K.Sink.written c.loop-piece.sink) new piece.items (pieces_bytes (drop (i + 1) pieces)) here))

pub returns-clause-part : goal.returns-clause-part
returns-clause-part g c =
    let pieces = c.args.pieces.now in
    let old = g.K.Sink.written c.args.sink.now in
    let all = pieces_bytes pieces in
    let whole = take_all c.loop-piece.piece-index pieces (omega (arith, c.loop-piece-test.false)) in
    record {
      count = length all;
      written = c.loop-piece.invariant.written ∙ ap (λ (ps : List (Vec ℕ Global)). written_with old (pieces_bytes ps)) whole
          ∙ ap (written_with old) (sym (take_all (length all) all (omega arith)));
    }
