-- Rows of what is asked, worked out by hand.
use Rattle.std.proofs.Common.{◌≡◌, refl, true, false, [], ◌∷◌, Ok, Err}
use Rattle.std.specs.Prelude.{codes}
use Rattle.clap.specs.Faults.{walk_fault, defaults_fault}
use Rattle.clap.specs.Walk.{walked}
use Rattle.scq_words.specs.Exports.{asked, asked_of_run, asked_of_self, asked_of_stages, run, generated, staged}
use Rattle.scq_words.specs.declared.fault.WordsFault.TheVariants.{NotUnderstood, Workers, NoName, Seed}

row-none : asked [] ≡ Err NotUnderstood
row-none = refl

row-other : asked (codes "walk" ∷ codes "f" ∷ []) ≡ Err NotUnderstood
row-other = refl

row-alone : asked (codes "run" ∷ []) ≡ Err NotUnderstood
unfolding asked_of_run walk_fault walked defaults_fault
row-alone = refl

row-one : asked (codes "run" ∷ codes "f" ∷ []) ≡ Ok (run (record { workers = 4; order = 6; size = 65536; topics = []; batch = false; report = false; files = codes "f" ∷ [] }))
unfolding asked_of_run walk_fault walked defaults_fault
row-one = refl

row-two : asked (codes "run" ∷ codes "f" ∷ codes "g" ∷ [])
    ≡ Ok (run (record { workers = 4; order = 6; size = 65536; topics = []; batch = false; report = false; files = codes "f" ∷ codes "g" ∷ [] }))
unfolding asked_of_run walk_fault walked defaults_fault
row-two = refl

row-report : asked (codes "run" ∷ codes "--report" ∷ codes "f" ∷ [])
    ≡ Ok (run (record { workers = 4; order = 6; size = 65536; topics = []; batch = false; report = true; files = codes "f" ∷ [] }))
unfolding asked_of_run walk_fault walked defaults_fault
row-report = refl

row-report_twice : asked (codes "run" ∷ codes "--report" ∷ codes "f" ∷ codes "--report" ∷ []) ≡ Err NotUnderstood
unfolding asked_of_run walk_fault walked defaults_fault
row-report_twice = refl

row-batch : asked (codes "run" ∷ codes "f" ∷ codes "--batch" ∷ [])
    ≡ Ok (run (record { workers = 4; order = 6; size = 65536; topics = []; batch = true; report = false; files = codes "f" ∷ [] }))
unfolding asked_of_run walk_fault walked defaults_fault
row-batch = refl

row-stages_batch : asked (codes "stages" ∷ codes "--batch" ∷ codes "f" ∷ []) ≡ Err NotUnderstood
unfolding asked_of_stages walk_fault walked defaults_fault
row-stages_batch = refl

row-report_value : asked (codes "run" ∷ codes "--report=true" ∷ codes "f" ∷ []) ≡ Err NotUnderstood
unfolding asked_of_run walk_fault walked defaults_fault
row-report_value = refl

row-nameless : asked (codes "run" ∷ [] ∷ []) ≡ Err (NoName 1)
unfolding asked_of_run walk_fault walked defaults_fault
row-nameless = refl

row-workers : asked (codes "run" ∷ codes "--workers" ∷ codes "0" ∷ codes "--order" ∷ codes "13" ∷ codes "f" ∷ []) ≡ Err Workers
unfolding asked_of_run walk_fault walked defaults_fault
row-workers = refl

row-stages : asked (codes "stages" ∷ codes "--size=16" ∷ codes "f" ∷ [])
    ≡ Ok (staged (record { workers = 4; order = 6; size = 16; files = codes "f" ∷ [] }))
unfolding asked_of_stages walk_fault walked defaults_fault
row-stages = refl

row-stages_report : asked (codes "stages" ∷ codes "--report" ∷ codes "f" ∷ []) ≡ Err NotUnderstood
unfolding asked_of_stages walk_fault walked defaults_fault
row-stages_report = refl

row-self : asked (codes "self" ∷ codes "--seed" ∷ codes "1" ∷ codes "--lines=3" ∷ []) ≡ Ok (generated (record { seed = 1; lines = 3; workers = 4 }))
unfolding asked_of_self walk_fault walked defaults_fault
row-self = refl

row-seed : asked (codes "self" ∷ codes "--seed" ∷ codes "2147483648" ∷ codes "--lines" ∷ codes "0" ∷ []) ≡ Err Seed
unfolding asked_of_self walk_fault walked defaults_fault
row-seed = refl
