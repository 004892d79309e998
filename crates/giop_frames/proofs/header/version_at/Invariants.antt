use Rattle.std.proofs.Common.{◌≡◌, find, drop, nat_eq}
use Rattle.std.specs.List.{starts_with}
use Rattle.giop_frames.specs.declared.layout.Version.{Version}
use Rattle.giop_frames.specs.Header.{version_octets}
use Rattle.giop_frames.proofs.header.version_at.Given as goal

abbrev pub invariant-loop-version : goal.invariant-loop-version
invariant-loop-version l =
    find (λ (version : Version). starts_with nat_eq (version_octets version) l.octets) (drop l.version-index l.versions)
    ≡ find (λ (version : Version). starts_with nat_eq (version_octets version) l.octets) l.versions
