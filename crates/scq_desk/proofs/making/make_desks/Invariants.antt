use Rattle.std.proofs.Common.{◌≡◌, ◌+◌, ◌≤◌, ◌++◌, [], map}
use Rattle.std.specs.Prelude.{vec_len, vec_capacity, reverse}
use Rattle.std.specs.List.{All}
use Rattle.scq_desk.specs.Exports.{IsToBegin}
use Rattle.scq_desk.proofs.making.make_desks.Given as goal

-- the passes of the desks so far and those that are left, in order, are those of the queue
abbrev pub invariant-passes : goal.invariant-passes
invariant-passes g l = record {
  passes : map (λ d. g.W.Sits.pass_of d.worker.worker) l.desks.items ++ reverse l.passes.items ≡ l.fn.passes.items;
  lists : vec_len l.lists ≡ vec_len l.passes;
  count : vec_len l.desks + vec_len l.passes ≡ vec_len l.fn.passes;
  room : vec_len l.desks + vec_len l.passes ≤ vec_capacity l.desks;
  fresh : All (λ d. IsToBegin g.W.Sits.pass_of g.W.Sits.has_none l.queue d.worker) l.desks.items;
  free : All (λ list. (list.items ≡ []) × (vec_len list ≡ 0) × (l.files ≤ vec_capacity list)) l.lists.items;
  empty : All (λ d. (d.files.items ≡ []) × (vec_len d.files ≡ 0) × (l.files ≤ vec_capacity d.files)) l.desks.items;
}

abbrev pub decreases-passes : goal.decreases-passes
decreases-passes g l = vec_len l.passes
