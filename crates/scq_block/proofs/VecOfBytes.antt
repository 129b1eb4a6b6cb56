-- A vector of bytes from the heap, in the words of walks. Assumes `Logic`.
use Rattle.std.specs.contracts.alloc.Global as heap
use Rattle.std.specs.contracts.impls.GlobalAllocator.TheImpl.{ghosts}
use Rattle.std.proofs.alloc.Global.TheLaws as heap_laws
use Rattle.std_alloc.specs.contracts.vec.Vec as V
use Rattle.std_alloc.proofs.vec.Vec.TheLaws as vec_laws
use Rattle.bytes.proofs.Lodging.{byte_laws}
use denote.Builtin.{u8}
use denote.RattleType.{RattleType}
use denote.Param.Laws.{Laws}

abbrev pub Whole : RattleType
Whole = V.the_row u8 heap.the_row ghosts

abbrev pub whole_laws : Laws Whole
whole_laws = vec_laws.the_row_laws u8 heap.the_row ghosts byte_laws heap_laws.the_row_laws
