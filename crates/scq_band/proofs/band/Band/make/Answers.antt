use Rattle.std.proofs.Common.{◌≡◌, ◌≤◌, rules, List, [], All, map, length, sym, ◌∙◌, ap, subst, arith}
use Rattle.std.specs.Prelude.{None, vec_capacity}
use Rattle.scq_word.specs.declared.setup.Setup.{Setup}
use Rattle.scq_band.specs.Exports.{word_count, AreRings, LiesIn, opening_of, first_view, full_slot, lifted, AllLaid, first_standings, identity_of}
use Rattle.scq_word.specs.Exports.{n_of}
use Rattle.atomic_table.specs.Table.{opening}
use Rattle.scq_band.specs.Shown.{Shown}
use Rattle.scq_band.proofs.Opening.{opens}
use Rattle.scq_band.proofs.RunShown.{opens_run}
use Rattle.scq_band.specs.Standing.{Standing}
use Rattle.scq_band.proofs.Starting.{stand_all, length-map, first_own}
use Rattle.scq_band.proofs.StartWords.{all_laid, lifted-laid}
use Rattle.scq_band.proofs.band.Band.make.Goals as goal

pub new-requires : goal.new-requires
new-requires g c =
    let k = c.args.setup in
    let bs = c.args.buffers.items in
    let contents = g.B.Buffer.contents in
    let Same = g.B.Buffer.IsSameBuffer in
    let itself = (g.met.B.Buffer g.world.𝓛 g.world.𝓜 g.world.𝓡 ((λ s x. x), (λ x. x), (λ x. x), (λ x. x))).same_as_itself in
    let all : length bs ≡ n_of k.order = let whole = c.args.buffers.ok in let many = c.requires in omega (arith, whole, many) in
    let memory = c.in-Ok.ensures in
    let base : Shown (LiesIn contents Same bs) (opening_of contents bs) k (λ k. None) [] (opening c.in-Ok.memory.words.items (map full_slot bs)
    (first_view k)) =
    opens (LiesIn contents Same bs) k c.in-Ok.memory.words.items (map full_slot bs) (map contents bs) memory.opened
    (length-map contents full_slot bs ∙ all)
    (length-map contents contents bs ∙ all) (λ j low. stand_all contents Same itself bs j (omega (arith, all, low))) in
    rw (c.of.ensures, c.as_slice.ensures.value, c.lay_all.ensures.slots) (opens_run (LiesIn contents Same bs) k c.in-Ok.memory.words.items (map full_slot bs)
    (map contents bs) base)

pub lift_all-requires-clause-laid : goal.lift_all-requires-clause-laid
lift_all-requires-clause-laid g c κs within =
    subst AllLaid (sym (c.in-Err-new.ensures.err ∙ c.lay_all.ensures.slots)) (all_laid c.args.buffers.items)

pub returns-clause-refused : goal.returns-clause-refused
returns-clause-refused g c =
    c.lift_all.ensures ∙ ap lifted (c.in-Err-new.ensures.err ∙ c.lay_all.ensures.slots) ∙ lifted-laid c.args.buffers.items

pub returns-in-Ok-new-clause-seats : goal.returns-in-Ok-new-clause-seats
returns-in-Ok-new-clause-seats g c =
    let table = c.in-Ok-new.table.shared.table_id in
    c.split_all-seats.ensures ∙ ap (λ k. first_standings (identity_of table k) c.args.setup.seats) (sym c.in-Ok-new.ensures.ok.5)

pub invariant_of-band : goal.invariant_of-band
invariant_of-band g c =
    let bs = c.args.buffers.items in
    let contents = g.B.Buffer.contents in
    let memory = c.in-Ok.ensures in
    let new = c.in-Ok-new.ensures.ok in
    let whole = c.args.buffers.ok in
    let many = c.requires in
    let all : length bs ≡ n_of c.args.setup.order = omega (arith, whole, many) in
    let setup : c.args.setup ≡ c.in-Ok-new.table.shared.key.setup = sym (ap (λ k. k.setup) new.5) in
    record {
      same = setup;
      words = new.0 ∙ ap length c.as_slice.ensures.value ∙ memory.opened.count ∙ ap word_count setup;
      slots = new.1 ∙ ap length c.lay_all.ensures.slots ∙ length-map contents full_slot bs ∙ all ∙ ap (λ (s : Setup). n_of s.order) setup;
      given = ap (λ k. length k.given.value.items) new.5 ∙ rw c.of.ensures all ∙ ap (λ (s : Setup). n_of s.order) setup;
      each = subst (λ (s : Setup). AreRings s s.rings c.in-Ok.memory.rings.items) setup memory.rings;
      no_buffer = c.lay_all.ensures.emptied;
      holds_all = subst (λ (s : Setup). n_of s.order ≤ vec_capacity c.lay_all.new.buffers) setup (search rules);
      none_left = memory.none_left;
      each_ring = subst (λ (s : Setup). s.rings ≤ vec_capacity c.in-Ok.memory.left) setup memory.each_ring;
    }

pub returns-in-Ok-new-clause-own : goal.returns-in-Ok-new-clause-own
returns-in-Ok-new-clause-own g c =
    let band = identity_of c.in-Ok-new.table.shared.table_id c.in-Ok-new.table.shared.key in
    let key = c.in-Ok-new.ensures.ok.5 in
    subst (λ (ss : List (Standing g.row.B.Denot)). All (λ (s : Standing g.row.B.Denot). s.band ≡ band) ss)
    (sym (c.split_all-seats.ensures ∙ ap (λ k. first_standings (identity_of c.in-Ok-new.table.shared.table_id k) k.setup.seats) (sym key)))
    (first_own band c.in-Ok-new.table.shared.key.setup.seats)
