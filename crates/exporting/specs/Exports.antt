-- What exporting a tree in memory answers, and what the room holds next.
use Rattle.std.specs.Prelude.{List, ℕ}
use Rattle.paper.specs.Limits.{Limits}
use Rattle.paper.specs.Exporting.{text_of}
use Rattle.records.specs.Judge.{outcome}
use Rattle.records.specs.Trees.{tree_in}
use Rattle.records.specs.declared.Tree.{Tree}
use Rattle.judging.specs.Bytes.{bytes_of}
use Rattle.writing.specs.Writes.{Wrote, laid_of}

-- as its bytes would be answered, then Room (9) if its text does not fit; room behind the text stays
unfoldable pub export_of : Limits → Tree → List ℕ → Wrote
export_of L t room = laid_of (outcome L (bytes_of t)) (text_of (tree_in t)) room
