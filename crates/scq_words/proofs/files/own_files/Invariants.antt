use Rattle.std.proofs.Common.{◌≡◌, map, take}
use Rattle.std.specs.Prelude.{string_bytes, vec_len}
use Rattle.scq_words.proofs.files.own_files.Given as goal

-- the names so far were copied
abbrev pub invariant-loop-name : goal.invariant-loop-name
invariant-loop-name l = record {
  len : vec_len l.own ≡ l.name-index;
  names : map string_bytes l.own.items ≡ map (λ name. name.now) (take l.name-index l.files);
}
