use Rattle.std.proofs.Common.{◌+◌, ◌∙◌, ℕ, ap, length, sym}
use Rattle.giop_frames.specs.declared.header.Kind.{Kind}
use Rattle.giop_frames.specs.Content.{message_of, start_of}
use Rattle.giop_frames.specs.Layout.{tail_start}
use Rattle.giop_frames.proofs.Exact.{content_found, content_only, start_only}
use Rattle.giop_frames.proofs.laws.a_message_is_its_content.Goals as goal

pub returns : goal.returns
returns c = record {
  found = content_found c.fields_are_read_exactly.ensures;
  only = λ version order kind content m is h. ap (λ (k : Kind). message_of version order k content) is ∙ content_only c.fields_are_read_exactly.ensures version order m content h;
  start = λ version order kind content m is h.
      let at : ℕ = 12 + length h.fields in
      ap (λ (k : Kind). start_of version order k content) is ∙ start_only c.fields_are_read_exactly.ensures version order m content h ∙ ap (λ (k : Kind). tail_start version k at) (sym is);
}
