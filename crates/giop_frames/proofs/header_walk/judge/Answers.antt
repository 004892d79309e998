use Rattle.std.proofs.Common.{◌≡◌, ◌∙◌, get_or, ap, sym, Some, None, ℕ, arith}
use Rattle.giop_frames.specs.declared.fault.FrameFault.TheVariants as faults
use Rattle.giop_frames.specs.declared.layout.Version.{Version}
use Rattle.giop_frames.specs.Header.{magic}
use Rattle.giop_frames.proofs.Fronts.{front_bad, front_more, front_type, front_unknown, front_version}
use Rattle.giop_frames.proofs.header_walk.judge.Goals.{else-count-eq7-via-then-count-eq7+else-octet-gt7, else-count-eq7-via-else-count-eq7}
use Rattle.giop_frames.proofs.header_walk.judge.Goals as goal

magic_short : faults.BadMagic ≡ faults.Short → ⊥
magic_short e = cc

magic_memory : faults.BadMagic ≡ faults.Memory → ⊥
magic_memory e = cc

version_short : faults.BadVersion ≡ faults.Short → ⊥
version_short e = cc

version_memory : faults.BadVersion ≡ faults.Memory → ⊥
version_memory e = cc

type_short : faults.BadType ≡ faults.Short → ⊥
type_short e = cc

type_memory : faults.BadType ≡ faults.Memory → ⊥
type_memory e = cc

some_is : (version : Version) → Some version ≡ None → ⊥
some_is version e = cc

pub returns-then-octet-count : goal.returns-then-octet-count
returns-then-octet-count c front size f =
    (front_bad c.args.versions.now front c.args.octet c.args.version (omega (arith, size, c.if-count-lt4.true)) f (λ e. c.if-octet-count.true (e ∙ ap (λ (n : ℕ). get_or magic n 0) size)), (magic_short, magic_memory))

pub returns-in-None : goal.returns-in-None
returns-in-None c front size f =
    (front_unknown c.args.versions.now front c.args.octet c.args.version (omega (arith, size, c.if-count-lt4.false)) f (sym (c.in-None.ensures front c.args.version size f)), (version_short, version_memory))

pub returns-in-Some : goal.returns-in-Some
returns-in-Some c front size f =
    front_version c.args.versions.now front c.args.octet c.args.version (Some c.in-Some.found) (omega (arith, size, c.if-count-lt4.false)) (omega (arith, size, c.if-count-lt6.true)) f (sym (c.in-Some.ensures front c.args.version size f)) (some_is c.in-Some.found)

pub returns-then-octet-gt7 : goal.returns-then-octet-gt7
returns-then-octet-gt7 c front size f =
    (front_type c.args.versions.now front c.args.octet c.args.version (omega (arith, size, c.if-count-eq7.true)) f (omega (arith, c.if-octet-gt7.true)), (type_short, type_memory))

pub returns : goal.returns
returns c front size f =
    front_more c.args.versions.now front c.args.octet c.args.version (omega (arith, size, c.if-count-lt6.false)) f (λ seven. elim c.else-count-eq7.branch [
      | else-count-eq7-via-then-count-eq7+else-octet-gt7 w ↦ omega (arith, w.if-octet-gt7.false)
      | else-count-eq7-via-else-count-eq7 w ↦ absurd (w.if-count-eq7.false (sym size ∙ seven))
    ])
