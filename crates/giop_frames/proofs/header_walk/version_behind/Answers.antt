use Rattle.std.proofs.Common.{◌∙◌, ap, sym, arith}
use Rattle.giop_frames.specs.Header.{version_at}
use Rattle.giop_frames.proofs.Fronts.{first_behind, second_behind}
use Rattle.giop_frames.proofs.header_walk.version_behind.Goals as goal

pub returns-then-count-eq4 : goal.returns-then-count-eq4
returns-then-count-eq4 c front version size f = c.version_at.ensures ∙ ap (version_at c.args.versions.now) (sym (first_behind front c.args.octet (omega arith)))

pub returns-else-count-eq4 : goal.returns-else-count-eq4
returns-else-count-eq4 c front version size f = c.version_at-else-count-eq4.ensures ∙ ap (version_at c.args.versions.now) (sym (second_behind c.args.versions.now front c.args.octet version (omega arith) f))
