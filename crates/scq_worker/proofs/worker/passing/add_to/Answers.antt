use Rattle.std.proofs.Common.{◌≡◌, ◌^◌, ◌<◌, ap, sym, subst, refl, arith, ℕ, List, length}
use Rattle.std.specs.List.{All}
use Rattle.scq_frames.specs.Exports.{IsEncodable, Part, part_of}
use Rattle.scq_frames.proofs.BatchLemmas.{encodable-view}
use Rattle.scq_worker.specs.Exports.{IsOpen}
use Rattle.scq_worker.proofs.Gathered.{open-more}
use Rattle.scq_worker.proofs.worker.passing.add_to.Goals as goal

-- the part is one more of that file
pub returns-clause-opens : goal.returns-clause-opens
returns-clause-opens c =
    let job = c.args.job.now in
    let m = c.args.message.now in
    let v = c.view_of-view.result in
    let p : Part = part_of job.size m c.args.part in
    let old : List Part = c.args.batch.now in
    let same = c.view_of-view.ensures in
    let limit = job.limit in
    let short : length m.payload < 2 ^ 32 = omega (arith, limit, c.requires.short) in
    let fits = subst IsEncodable same
    (encodable-view job.size m c.args.part v same (omega arith) (omega arith) (omega arith) (omega arith) short c.requires.numbered) in
    let room = c.has_room.ensures.0 c.if-not-has_room.false in
    let of_file : All (λ (q : Part). q.file ≡ p.file) old =
    subst (λ (f : ℕ). All (λ (q : Part). q.file ≡ f) old) (ap (λ (q : Part). q.file) same) room.0 in
    let len = ap (λ (q : Part). length q.payload) same in
    subst (IsOpen job.most m.topic) (sym c.in_ok-push.ensures.pushed)
    (open-more job.most m.topic old p c.requires.opens fits refl of_file (omega (arith, room.1, len)))
