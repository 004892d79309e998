use Rattle.std.proofs.Common.{◌≡◌, ◌≤◌, ◌<◌, ◌+◌, ◌∷◌, ◌++◌, ◌∙◌, [], ℕ, List, length, take, sym, subst, arith}
use Rattle.std.specs.Prelude.{slice_set}
use Rattle.std.proofs.lemmas.List.{length-append, length-set, take_more_set}
use Rattle.std.proofs.lemmas.Result.{err_from_is_err_and}
use Rattle.giop_frames.specs.HeaderWalk.{IsFront, taken}
use Rattle.giop_frames.proofs.Fronts.{not_short, said_whole, taken_length, whole_told}
use Rattle.giop_frames.proofs.header_walk.HeaderWalk.take.Goals as goal

pub returns-in_err-header-clause-refused : goal.returns-in_err-header-clause-refused
returns-in_err-header-clause-refused c =
    let old = c.args.self.now in
    let versions = c.args.versions.now in
    let all : List ℕ = taken old ++ (c.args.octet ∷ []) in
    let octets : List ℕ = slice_set old.octets old.count c.args.octet in
    let within : old.count < length old.octets = omega (arith, c.requires.sound.partial c.requires.partial, c.requires.sound.sized) in
    let is : all ≡ take (old.count + 1) octets = sym (take_more_set old.octets old.count c.args.octet within) in
    let size : length octets ≡ 12 = length-set old.octets old.count c.args.octet ∙ c.requires.sound.sized in
    let front : IsFront versions all c.in_ok-version.version = c.in_ok-version.ensures (taken old) (taken_length versions old c.requires.sound) c.requires.sound.front in
    let r = c.in_err-header.ensures.refused in
    let e = said_whole versions c.in_ok-version.version octets all (old.count + 1) front is size r.0 ∙ r.1 in
    let long : 12 ≤ length all = omega (arith, r.0, taken_length versions old c.requires.sound, length-append (taken old) (c.args.octet ∷ [])) in
    let p = err_from_is_err_and c.from_residual-in_err-header.result c.from_residual-in_err-header.ensures.1 in
    rw (p.1, p.2) (e, (not_short versions all c.in_err-header.field-0.0 e long, r.2))

pub returns-clause-sound : goal.returns-clause-sound
returns-clause-sound c =
    let old = c.args.self.now in
    let versions = c.args.versions.now in
    let all : List ℕ = taken old ++ (c.args.octet ∷ []) in
    let octets : List ℕ = slice_set old.octets old.count c.args.octet in
    let less : old.count < 12 = c.requires.sound.partial c.requires.partial in
    let within : old.count < length old.octets = omega (arith, less, c.requires.sound.sized) in
    let is : all ≡ take (old.count + 1) octets = sym (take_more_set old.octets old.count c.args.octet within) in
    let size : length octets ≡ 12 = length-set old.octets old.count c.args.octet ∙ c.requires.sound.sized in
    let front : IsFront versions all c.in_ok-version.version = c.in_ok-version.ensures (taken old) (taken_length versions old c.requires.sound) c.requires.sound.front in
    record {
      sized = size;
      few = omega (arith, less);
      front = subst (λ (x : List ℕ). IsFront versions x c.in_ok-version.version) is front;
      whole = whole_told versions c.in_ok-version.version octets all (old.count + 1) c.in_ok-header.header front is size c.in_ok-header.ensures.found;
      partial = c.in_ok-header.ensures.partial;
    }
