-- Each step adds the next answer where it stands in the span, up to the last.
use Rattle.std.proofs.Common.{rules, ◌∙◌, ap, sym, Bool, List, [], ◌∷◌, ◌++◌}
use Rattle.std.proofs.lemmas.List.{append-nil}
use Rattle.std.specs.Prelude.{slice_index_or}
use Rattle.scq_collect.specs.Exports.{PartAnswer, is_in, place_of, plain, spot_answer}
use Rattle.scq_collect.proofs.LaidLaws.{filtered-more}
use Rattle.scq_collect.proofs.SpanLaws.{filter-none}
use Rattle.scq_collect.proofs.SpotLaws.{walked-end, walked-none, walked-step}
use Rattle.scq_collect.proofs.spots.push_spots_of.Goals as goal

pub answers-init : goal.answers-init
answers-init c = λ answers is.
    walked-none answers c.args.block.now.bytes.now _ is.codable is.bytes (sym (append-nil (plain c.args.spots.now.items)))

pub answers-preserved : goal.answers-preserved
answers-preserved c = λ answers is.
    let spot = c.in-Some.spot in
    let test = is_in c.args.span.now in
    walked-step answers c.answers.before c.answers.rest.now _ _ (spot_answer spot) c.in-Some.behind.now c.in-Some.ensures.again c.in-Some.ensures.shorter
    (λ done held. filtered-more test (plain c.args.spots.now.items) (plain c.answers.spots.items) (plain c.push_spot.new.spots.items) done (spot_answer spot ∷ [])
    c.in_ok-push_spot.ensures held)
    (c.answers.invariant answers is)

pub returns-then-not-meets : goal.returns-then-not-meets
returns-then-not-meets c = λ answers is.
    let test : PartAnswer → Bool = is_in c.args.span.now in
    let had : List PartAnswer = plain c.args.spots.now.items in
    sym (append-nil had)
    ∙ ap (λ (l : List PartAnswer). had ++ l)
    (sym (filter-none test answers (λ k d less. c.meets.ensures (search rules) (place_of (slice_index_or answers k d)) (is.within k d less))))

pub returns : goal.returns
returns c = λ answers is.
    walked-end answers c.answers.before c.answers.rest.now _ c.in_default.ensures.again (c.answers.invariant answers is)
