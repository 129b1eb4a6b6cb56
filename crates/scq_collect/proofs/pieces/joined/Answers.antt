use Rattle.std.proofs.Common.{◌≡◌, ◌∙◌, sym, ap, subst, arith, ℕ, ◌+◌, ◌<◌, List, [], ◌∷◌, ◌++◌, length, take, append_assoc}
use Rattle.std.specs.Prelude.{IfOk, slice_index_or}
use Rattle.std.specs.List.{All}
use Rattle.std.specs.Vec.Iter.{into_iter_items}
use Rattle.std.proofs.lemmas.List.{append-nil, length-append, take_all, take_more}
use Rattle.std.proofs.lemmas.List.Elements.{All-append, All-cons, All-nil}
use Rattle.std.proofs.lemmas.Result.{IfOk-weaker}
use Rattle.scq_topics.specs.declared.kind.Kind.{Kind}
use Rattle.scq_collect.specs.Exports.{Answer, AreStretchesOf, IsStretchOf, all_answers, AreTextsOf}
use Rattle.scq_collect.proofs.InChunks.{behind-front, flat-push, nothing-left}
use Rattle.scq_collect.proofs.Stretched.{Made, WasMade}
use Rattle.scq_collect.proofs.pieces.joined.Goals as goal
use Rattle.scq_collect.proofs.pieces.joined.Goals.{After-with_totals}

-- the answers of the stretch that comes next, behind those of the stretches so far
record Next (topics : List (List ℕ × Kind)) (lists : List (List Answer)) (n : ℕ) (s : Made) : Type 0 where
  answers : List Answer
  is : IfOk s (IsStretchOf topics answers)
  more : all_answers (take n lists) ++ answers ≡ all_answers (take (n + 1) lists)

next-stretch : (topics : List (List ℕ × Kind)) (lists : List (List Answer)) (made yielded rest : List Made) (s : Made)
    → yielded ++ (s ∷ rest) ≡ made → AreStretchesOf topics lists made → Next topics lists (length yielded) s
next-stretch topics lists made yielded rest s whole are =
    let n = length yielded in
    let within : n < length made = omega (arith, ap length whole, length-append yielded (s ∷ rest)) in
    let answers : List Answer = slice_index_or lists n [] in
    let read : slice_index_or made n s ≡ s = sym (ap (λ (l : List Made). slice_index_or l n s) whole) ∙ behind-front yielded rest s s in
    record {
      answers = answers;
      is = subst (λ (r : Made). IfOk r (IsStretchOf topics answers)) read (are.each n s [] within);
      more = sym (ap all_answers (take_more lists n [] (omega (arith, within, are.count))) ∙ flat-push (λ (answers : List Answer). answers) (take n lists) answers);
    }

pub add-requires : goal.add-requires
add-requires c =
    let at = c.stretches in
    let s = c.in-Some.stretch in
    let rest = into_iter_items c.next.new.self in
    let steps : into_iter_items at.stretch-iterator ≡ s ∷ rest = c.in-Some.ensures.steps.0 in
    let whole : at.yielded ++ (s ∷ rest) ≡ c.args.made.items =
    ap (λ (l : List Made). at.yielded ++ l) (sym steps) ∙ at.invariant.all ∙ c.into_iter-stretch-iterator.ensures.into_iter_gives.0 in
    let lists = c.requires.made.0 in
    let are = c.requires.made.1 in
    let next = next-stretch c.args.topics.now lists c.args.made.items at.yielded rest s whole are in
    (c.args.topics.now, all_answers (take (length at.yielded) lists), next.answers, at.invariant.texts lists are, next.is)

pub stretches-preserved : goal.stretches-preserved
stretches-preserved c =
    let at = c.stretches in
    let s = c.in-Some.stretch in
    let topics = c.args.topics.now in
    let rest = into_iter_items c.next.new.self in
    let steps : into_iter_items at.stretch-iterator ≡ s ∷ rest = c.in-Some.ensures.steps.0 in
    let whole : at.yielded ++ (s ∷ rest) ≡ c.args.made.items =
    ap (λ (l : List Made). at.yielded ++ l) (sym steps) ∙ at.invariant.all ∙ c.into_iter-stretch-iterator.ensures.into_iter_gives.0 in
    let long : length (at.yielded ++ s ∷ []) ≡ length at.yielded + 1 = length-append at.yielded (s ∷ []) in
    record {
      all = append_assoc at.yielded (s ∷ []) rest ∙ ap (λ (l : List Made). at.yielded ++ l) (sym steps) ∙ at.invariant.all;
      left = let was = at.invariant.left in
          let gone = c.in-Some.ensures.steps.1 in
          let short = ap length steps in
          omega arith;
      texts = λ lists are.
          let next = next-stretch topics lists c.args.made.items at.yielded rest s whole are in
          subst (λ (l : List Answer). AreTextsOf topics l c.add.new.self) (next.more ∙ ap (λ k. all_answers (take k lists)) (sym long))
          (c.in_ok-add.ensures.added topics (all_answers (take (length at.yielded) lists)) next.answers (at.invariant.texts lists are) next.is);
      made = All-append WasMade at.yielded (s ∷ []) at.invariant.made (All-cons WasMade s [] c.in_ok-add.ensures.made (All-nil WasMade));
    }

-- at the end all were yielded
all-yielded : (c : After-with_totals) → c.stretches.yielded ≡ c.args.made.items
all-yielded c =
    let at = c.stretches in
    let empty : into_iter_items at.stretch-iterator ≡ [] = nothing-left _ (sym at.invariant.left ∙ c.in-None.ensures.steps.0) in
    sym (append-nil at.yielded) ∙ rw empty at at.invariant.all ∙ c.into_iter-stretch-iterator.ensures.into_iter_gives.0

pub returns-clause-text : goal.returns-clause-text
returns-clause-text c = λ lists are.
    let at = c.stretches in
    let whole : take (length at.yielded) lists ≡ lists = take_all (length at.yielded) lists (omega (arith, ap length (all-yielded c), are.count)) in
    c.with_totals.ensures (all_answers lists)
    (subst (λ (ls : List (List Answer)). AreTextsOf c.args.topics.now (all_answers ls) at.so_far) whole (at.invariant.texts lists are))

pub returns-clause-made : goal.returns-clause-made
returns-clause-made c =
    let made = c.requires.made in
    IfOk-weaker c.with_totals.result _ (λ _. All WasMade c.args.made.items) (λ _ _. subst (All WasMade) (all-yielded c) c.stretches.invariant.made)
    (returns-clause-text c made.0 made.1)
