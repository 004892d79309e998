use Rattle.std.proofs.Common.{◌≡◌, ◌+◌, ◌*◌, ◌≤◌, drop, take}
use Rattle.std.specs.List.{flat_map}
use Rattle.giop_frames.specs.Encode.{field_values, fields_refusal}
use Rattle.giop_frames.specs.EncodeInside.{fields_told, octets_in_table}
use Rattle.giop_frames.specs.Put.{HasPut}
use Rattle.giop_frames.proofs.fields.put_fields.Given as goal

abbrev pub invariant-loop-field : goal.invariant-loop-field
invariant-loop-field l = record {
  put : HasPut (flat_map (field_values (fields_told l.told)) (take l.field-index l.field-items)) l.fn.sink l.sink;
  so_far : fields_refusal (fields_told l.told) l.sink.end (drop l.field-index l.field-items)
      ≡ fields_refusal (fields_told l.told) 12 l.field-items;
  most : l.sink.end ≤ 12 + octets_in_table (fields_told l.told) (take l.field-index l.field-items) + 256 * l.field-index;
}
