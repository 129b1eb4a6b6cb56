use Rattle.std.proofs.Common.{◌≡◌, ◌∙◌, sym, subst, ap, arith, rules, ℕ, List, ◌++◌, ◌+◌, ◌<◌, length, take, drop}
use Rattle.std.specs.Prelude.{slice_index_or}
use Rattle.std.proofs.lemmas.Grind.{flat_map-append}
use Rattle.std.proofs.lemmas.List.{drop_more, take-append-drop, take_all}
use Rattle.std.proofs.lemmas.List.Concat.{flat_map-cons}
use Rattle.scq_service.specs.Exports.{shown, shown_byte, WrotePart, written_with}
use Rattle.scq_service.proofs.Writings.{part-first, part-second}
use Rattle.scq_service.proofs.naming.write_shown.Goals as goal

-- the bytes are those up to one, it, and the rest
cut-at : (text : List ℕ) (i : ℕ) → i < length text → shown text ≡ shown (take i text) ++ (shown_byte (slice_index_or text i 0) ++ shown (drop (i + 1) text))
cut-at text i within =
    sym (ap shown (take-append-drop i text)) ∙ flat_map-append shown_byte (take i text) (drop i text)
    ∙ ap (λ (rest : List ℕ). shown (take i text) ++ shown rest) (drop_more text i 0 within)
    ∙ ap (λ (rest : List ℕ). shown (take i text) ++ rest) (flat_map-cons shown_byte (slice_index_or text i 0) (drop (i + 1) text))

pub returns-in_err-write_byte : goal.returns-in_err-write_byte
returns-in_err-write_byte g c =
    let text = c.args.text.now in
    let i = c.loop-byte.byte-index in
    let old = g.K.Sink.written c.args.sink.now in
    let mid = g.K.Sink.written c.loop-byte.sink in
    let new = g.K.Sink.written c.write_byte.new.sink in
    let front = shown (take i text) in
    let byte = shown_byte (slice_index_or text i 0) in
    let rest = shown (drop (i + 1) text) in
    record {
      whole = search rules;
      part = subst (WrotePart old new) (sym (cut-at text i c.loop-byte-test.true))
          (part-second old mid new front (byte ++ rest) c.loop-byte.invariant.written (part-first mid new byte rest c.write_byte.ensures.part));
      kept = search rules;
      rose = search rules;
    }

pub returns : goal.returns
returns g c =
    let text = c.args.text.now in
    let old = g.K.Sink.written c.args.sink.now in
    let all = shown text in
    let whole = c.loop-byte.invariant.written
    ∙ ap (λ (bytes : List ℕ). written_with old (shown bytes)) (take_all c.loop-byte.byte-index text (omega (arith, c.loop-byte-test.false))) in
    record {
      whole = whole;
      part = record { count = length all; written = whole ∙ ap (written_with old) (sym (take_all (length all) all (omega arith))) };
      kept = c.loop-byte.invariant.kept;
      rose = tt;
    }
