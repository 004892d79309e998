use Rattle.std.proofs.Common.{Ok, ap, length, refl, ℕ, arith}
use Rattle.giop_frames.specs.EncodeInside.{values_told}
use Rattle.giop_frames.proofs.Ends.{end_of-is}
use Rattle.giop_frames.proofs.Refused.{fits, padding_is_short, told_ends, told_size, too_large}
use Rattle.giop_frames.proofs.encoding.content_size.Goals as goal

pub overflow_sub-fields : goal.overflow_sub-fields
overflow_sub-fields c =
    let told = c.args.told.now in
    omega (arith, c.requires.ends, end_of-is told.order 12 (values_told c.args.version told))

pub overflow_cast-result : goal.overflow_cast-result
overflow_cast-result c =
    let told = c.args.told.now in
    omega (arith, c.requires.small, c.requires.within, ap length c.padding.ensures, padding_is_short c.args.version told.kind c.args.end told.behind.now)

pub returns-then-size-gt-SIZE_LIMIT : goal.returns-then-size-gt-SIZE_LIMIT
returns-then-size-gt-SIZE_LIMIT c m tells =
    let version = c.args.version in
    let told = c.args.told.now in
    let size = told_size version m told c.args.end c.padding.result.now tells (told_ends version m told c.args.end tells c.requires.ends) c.padding.ensures in
    rw (too_large version m _ (rw (tells.fields, tells.kind) at c.requires.passes) size c.if-size-gt-SIZE_LIMIT.true) refl

pub returns : goal.returns
returns c m tells =
    let version = c.args.version in
    let told = c.args.told.now in
    let size = told_size version m told c.args.end c.padding.result.now tells (told_ends version m told c.args.end tells c.requires.ends) c.padding.ensures in
    rw (fits version m _ (rw (tells.fields, tells.kind) at c.requires.passes) size c.if-size-gt-SIZE_LIMIT.false) (ap (λ (n : ℕ). Ok n) size)
