use Rattle.std.proofs.Common.{rules, ◌≡◌, Some, arith, refl}
use Rattle.std.specs.Prelude.{find}
use Rattle.ior_refs.specs.Iiop.{is_iiop, first_iiop}
use Rattle.ior_refs.proofs.Sequences.{first_short}
use Rattle.ior_refs.proofs.location.iiop.Goals as goal

pub iiop_of-requires : goal.iiop_of-requires
iiop_of-requires c =
    let reference = c.args.o.now in
    let first : first_iiop reference ≡ Some c.in-Some.octets.now = search rules in
    omega (arith, first_short is_iiop reference.1 (find is_iiop reference.1) c.in-Some.octets.now refl first c.first_iiop.ensures.fits.1.1)
