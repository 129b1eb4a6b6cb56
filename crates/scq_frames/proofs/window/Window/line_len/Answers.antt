use Rattle.std.proofs.Common.{subst, ℕ, List, Some, None, ◌+◌, ◌-◌, length, arith}
use Rattle.std.specs.Prelude.{slice_range}
use Rattle.memchr.specs.Find.{IsFirstByte, is_byte}
use Rattle.scq_frames.specs.Exports.{EndsAt, HasNoLineFeed}
use Rattle.scq_frames.proofs.PartLemmas.{clear-append, clear_from_some, clear_from_none, found_within, found_at, clear_part, ends_part}
use Rattle.scq_frames.proofs.window.Window.line_len.Goals as goal

pub invariant_of-self : goal.invariant_of-self
invariant_of-self c =
    let w = c.self.inside in
    let further = c.in-Some.further in
    let bytes = w.room.items in
    let found = subst (λ (xs : List ℕ). IsFirstByte (is_byte 10) (slice_range xs w.searched w.end) (Some further)) c.deref.ensures.value c.in-Some.ensures in
    record {
      start = omega arith;
      searched = omega (arith, found_within bytes w.searched w.end c.self.invariant.end further found);
      end = c.self.invariant.end;
      clear = clear-append _ _ w.searched _ c.self.invariant.clear (clear_from_some bytes w.searched w.end c.self.invariant.end further found);
    }

pub invariant_of-self-in-None : goal.invariant_of-self-in-None
invariant_of-self-in-None c =
    let w = c.self.inside in
    let none = subst (λ (xs : List ℕ). IsFirstByte (is_byte 10) (slice_range xs w.searched w.end) None) c.deref.ensures.value c.in-None.ensures in
    record {
      start = omega arith;
      searched = omega arith;
      end = c.self.invariant.end;
      clear = clear-append _ _ w.searched _ c.self.invariant.clear (clear_from_none w.room.items w.searched w.end c.self.invariant.end none);
    }

pub returns-in-Some-clause-found : goal.returns-in-Some-clause-found
returns-in-Some-clause-found c =
    let w = c.self.inside in
    let bytes = w.room.items in
    let further = c.in-Some.further in
    let found = subst (λ (xs : List ℕ). IsFirstByte (is_byte 10) (slice_range xs w.searched w.end) (Some further)) c.deref.ensures.value c.in-Some.ensures in
    let within = found_within bytes w.searched w.end c.self.invariant.end further found in
    let clear = clear-append bytes w.start w.searched (w.searched + further) c.self.invariant.clear
    (clear_from_some bytes w.searched w.end c.self.invariant.end further found) in
    let at = found_at bytes w.searched w.end c.self.invariant.end further found in
    let ends : EndsAt _ (w.searched + further - w.start) =
    ends_part bytes w.start w.end c.self.invariant.end (w.searched + further) (omega arith) within clear at in
    subst (λ (held : List ℕ). EndsAt held (w.searched + further - w.start)) c.self.view_is ends

pub returns-in-None-clause-none : goal.returns-in-None-clause-none
returns-in-None-clause-none c =
    let w = c.self.inside in
    let bytes = w.room.items in
    let none = subst (λ (xs : List ℕ). IsFirstByte (is_byte 10) (slice_range xs w.searched w.end) None) c.deref.ensures.value c.in-None.ensures in
    let clear = clear-append bytes w.start w.searched w.end c.self.invariant.clear (clear_from_none bytes w.searched w.end c.self.invariant.end none) in
    subst (λ (held : List ℕ). HasNoLineFeed held 0 (length held)) c.self.view_is (clear_part bytes w.start w.end c.self.invariant.end clear)
