-- A view of the answer to a part as the answer.
use Rattle.scq_collect.specs.Joined.{PartAnswer}
use Rattle.scq_collect.specs.declared.coding.PartView.{PartView}

abbrev pub viewed_answer : PartView → PartAnswer
viewed_answer v = record {
  file = v.file;
  line = v.line;
  topic = v.topic;
  part = v.part;
  parts =
      v.parts;
  bytes = v.bytes;
  text = v.text.now;
}
