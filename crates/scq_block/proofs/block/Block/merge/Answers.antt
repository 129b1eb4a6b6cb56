use Rattle.std.proofs.Common.{rules, ℕ}
use Rattle.std.proofs.lemmas.List.Sorted.{All-permutation, IsNonDecreasingBy-from_sort_by_key}
use Rattle.scq_block.specs.declared.frame.Frame.{Frame}
use Rattle.scq_block.specs.Exports.{IsPlaced}
use Rattle.scq_block.proofs.Sorting.{sorted_places}
use Rattle.scq_block.proofs.block.Block.merge.Goals as goal

pub gather-span-requires-clause-all : goal.gather-span-requires-clause-all
gather-span-requires-clause-all c =
    let s = c.sort_unstable_by_key in
    let number : Frame → ℕ = λ f. f.number in
    let up = IsNonDecreasingBy-from_sort_by_key number s.new.self.items s.ensures.sorted (λ a r q k. search rules) in
    (sorted_places number c.args.frames.items s.new.self.items c.args.self.count c.requires.once s.ensures.permutation up).0

pub gather-span-requires-clause-places : goal.gather-span-requires-clause-places
gather-span-requires-clause-places c =
    let s = c.sort_unstable_by_key in
    let number : Frame → ℕ = λ f. f.number in
    let up = IsNonDecreasingBy-from_sort_by_key number s.new.self.items s.ensures.sorted (λ a r q k. search rules) in
    let placed = IsPlaced c.args.self.shell.ptr c.args.self.cap in (
      (sorted_places number c.args.frames.items s.new.self.items c.args.self.count c.requires.once s.ensures.permutation up).1,
      All-permutation placed c.args.frames.items s.new.self.items s.ensures.permutation (λ k d h. (c.requires.own k d h).placed),
    )
