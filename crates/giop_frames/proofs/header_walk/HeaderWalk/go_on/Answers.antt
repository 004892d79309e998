use Rattle.std.proofs.Common.{◌≡◌, ◌<◌, ◌+◌, ◌++◌, ◌∙◌, ℕ, List, Some, Ok, ap, drop, length, refl, sym, take, arith}
use Rattle.std.proofs.lemmas.List.{take_all}
use Rattle.std.proofs.lemmas.Result.{err_from_is_err_and}
use Rattle.giop_frames.specs.Header.{header_at}
use Rattle.giop_frames.specs.HeaderWalk.{taken}
use Rattle.giop_frames.proofs.Fronts.{one_further, refused_on, so_further, taken_front, taken_short, taken_whole, whole_on}
use Rattle.giop_frames.proofs.Headers.{header_small}
use Rattle.giop_frames.proofs.header_walk.HeaderWalk.go_on.Goals as goal

pub returns-in-Some-clause-header : goal.returns-in-Some-clause-header
returns-in-Some-clause-header c =
    let w = c.args.self.now in
    sym (whole_on c.args.versions.now (taken w) c.args.octets.now _ c.in-Some.header (rw c.in-Some.is at c.requires.whole) refl)

pub returns-in-Some-clause-whole : goal.returns-in-Some-clause-whole
returns-in-Some-clause-whole c = taken_whole c.args.versions.now c.args.self.now c.in-Some.header c.requires (rw c.in-Some.is at c.requires.whole)

pub returns-in-Some-clause-small : goal.returns-in-Some-clause-small
returns-in-Some-clause-small c = header_small c.args.versions.now (taken c.args.self.now) c.in-Some.header (rw c.in-Some.is at c.requires.whole)

pub returns-in_err-header-clause-header : goal.returns-in_err-header-clause-header
returns-in_err-header-clause-header c =
    let i = c.loop-octet.octet-index in
    let octets = c.args.octets.now in
    let within : i < length octets = c.loop-octet-test.true in
    let further = one_further (taken c.args.self.now) (taken c.loop-octet.self) octets i within c.loop-octet.invariant.taken_are in
    let r = c.in_err-header.ensures.refused in
    let p = err_from_is_err_and c.from_residual.result c.from_residual.ensures.1 in
    rw (p.1, p.2) (sym (refused_on c.args.versions.now _ (drop (i + 1) octets) _ c.in_err-header.field-0.0 r.0 r.1.0 further))

pub returns-in_err-header-clause-taken : goal.returns-in_err-header-clause-taken
returns-in_err-header-clause-taken c =
    let i = c.loop-octet.octet-index in
    let octets = c.args.octets.now in
    let further = so_further (taken c.args.self.now) (taken c.loop-octet.self) octets i c.loop-octet.invariant.taken_are in
    rw c.in_err-header.ensures.err (taken_front c.args.versions.now c.loop-octet.self _ (drop i octets) c.loop-octet.invariant.sound further)

pub returns-in-Some-2-clause-header : goal.returns-in-Some-2-clause-header
returns-in-Some-2-clause-header c =
    let i = c.loop-octet.octet-index in
    let octets = c.args.octets.now in
    let rest : List ℕ = drop (i + 1) octets in
    let now = c.take.new.self in
    let known : now.header ≡ Some c.in-Some-2.header = c.in_ok-header.ensures.header ∙ c.in-Some-2.is in
    let told : header_at c.args.versions.now (taken now) ≡ Ok c.in-Some-2.header = rw known at c.in_ok-header.ensures.sound.whole in
    let further = one_further (taken c.args.self.now) (taken c.loop-octet.self) octets i c.loop-octet-test.true c.loop-octet.invariant.taken_are in
    sym (whole_on c.args.versions.now (taken now) rest _ c.in-Some-2.header told (further ∙ ap (λ (x : List ℕ). x ++ rest) (sym c.in_ok-header.ensures.taken)))

pub returns-in-Some-2-clause-taken : goal.returns-in-Some-2-clause-taken
returns-in-Some-2-clause-taken c =
    let i = c.loop-octet.octet-index in
    let octets = c.args.octets.now in
    let rest : List ℕ = drop (i + 1) octets in
    let further = one_further (taken c.args.self.now) (taken c.loop-octet.self) octets i c.loop-octet-test.true c.loop-octet.invariant.taken_are in
    taken_front c.args.versions.now c.take.new.self _ rest c.in_ok-header.ensures.sound (further ∙ ap (λ (x : List ℕ). x ++ rest) (sym c.in_ok-header.ensures.taken))

pub returns-in-Some-2-clause-whole : goal.returns-in-Some-2-clause-whole
returns-in-Some-2-clause-whole c =
    let now = c.take.new.self in
    let known : now.header ≡ Some c.in-Some-2.header = c.in_ok-header.ensures.header ∙ c.in-Some-2.is in
    taken_whole c.args.versions.now now c.in-Some-2.header c.in_ok-header.ensures.sound (rw known at c.in_ok-header.ensures.sound.whole)

pub returns-in-Some-2-clause-small : goal.returns-in-Some-2-clause-small
returns-in-Some-2-clause-small c =
    let now = c.take.new.self in
    let known : now.header ≡ Some c.in-Some-2.header = c.in_ok-header.ensures.header ∙ c.in-Some-2.is in
    header_small c.args.versions.now (taken now) c.in-Some-2.header (rw known at c.in_ok-header.ensures.sound.whole)

pub returns-clause-header : goal.returns-clause-header
returns-clause-header c =
    let octets = c.args.octets.now in
    let all : take c.loop-octet.octet-index octets ≡ octets = take_all c.loop-octet.octet-index octets (omega (arith, c.loop-octet-test.false)) in
    let same : taken c.loop-octet.self ≡ taken c.args.self.now ++ octets = c.loop-octet.invariant.taken_are ∙ ap (λ (x : List ℕ). taken c.args.self.now ++ x) all in
    sym (ap (header_at c.args.versions.now) (sym same) ∙ taken_short c.args.versions.now c.loop-octet.self c.loop-octet.invariant.sound c.loop-octet.invariant.partial)
