-- A view of a part as the part.
use Rattle.scq_frames.specs.declared.encoded.View.{View}
use Rattle.scq_frames.specs.Parts.{Part}

-- the part of a view
abbrev pub part_of_view : View → Part
part_of_view v = record {
  file = v.file;
  line = v.line;
  topic = v.topic;
  part = v.part;
  parts = v.parts;
  payload = v.payload.now;
}
