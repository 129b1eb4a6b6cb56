use Rattle.std.proofs.Common.{◌≡◌, ◌+◌, ◌≤◌, ◌++◌, false, map}
use Rattle.std.specs.Prelude.{vec_len, vec_capacity, reverse, flat_map}
use Rattle.std.specs.List.{All}
use Rattle.std.specs.Option.{option_to_list}
use Rattle.scq_desk.proofs.clearing.clear.Given as goal

-- what was left behind at the first desks, and what is at the others
abbrev pub invariant-desks : goal.invariant-desks
invariant-desks g l =
    let w = g.W.Sits in
    record {
      passes : l.left.passes.items ++ map (λ d. w.pass_of d.worker.worker) (reverse l.desks.items) ≡ map (λ d. w.pass_of d.worker.worker) l.fn.desks.items;
      held : l.left.held.items ++ flat_map (λ d. option_to_list d.worker.kept) (reverse l.desks.items) ≡ flat_map (λ d. option_to_list d.worker.kept) l.fn.desks.items;
      lists : l.left.lists.items ++ map (λ d. w.list_of d.worker.worker) (reverse l.desks.items) ≡ map (λ d. w.list_of d.worker.worker) l.fn.desks.items;
      pass_room : vec_len l.left.passes + vec_len l.desks ≤ vec_capacity l.left.passes;
      held_room : vec_len l.left.held + vec_len l.desks ≤ vec_capacity l.left.held;
      list_room : vec_len l.left.lists + vec_len l.desks ≤ vec_capacity l.left.lists;
      fed : l.left.starved ≡ false → All (λ d. w.starved_of d.worker.worker ≡ false) (reverse l.desks.items)
          → All (λ d. w.starved_of d.worker.worker ≡ false) l.fn.desks.items;
    }

abbrev pub decreases-desks : goal.decreases-desks
decreases-desks g l = vec_len l.desks
