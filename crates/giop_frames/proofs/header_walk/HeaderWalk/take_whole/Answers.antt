use Rattle.std.proofs.Common.{◌≡◌, ◌∙◌, ℕ, List, Some, Ok, Err, ap, drop, length, subst, sym, take, arith}
use Rattle.std.proofs.lemmas.List.{length-take, take-append-drop, take_all}
use Rattle.std.proofs.lemmas.Result.{err_from_is_err_and}
use Rattle.giop_frames.specs.Header.{header_at}
use Rattle.giop_frames.specs.HeaderWalk.{IsFront}
use Rattle.giop_frames.proofs.Fronts.{not_short}
use Rattle.giop_frames.proofs.Further.{header_same}
use Rattle.giop_frames.proofs.Headers.{header_front}
use Rattle.giop_frames.proofs.header_walk.HeaderWalk.take_whole.Goals as goal

pub returns-in_err-header-clause-refused : goal.returns-in_err-header-clause-refused
returns-in_err-header-clause-refused c =
    let fault = c.in_err-header.field-0.0 in
    let refused : header_at c.args.versions.now c.args.octets.now ≡ Err fault = sym c.in_err-header.ensures.header in
    let p = err_from_is_err_and c.from_residual.result c.from_residual.ensures.1 in
    rw (p.1, p.2) (not_short c.args.versions.now c.args.octets.now fault refused c.requires.whole, c.in_err-header.ensures.memory)

pub returns-clause-sound : goal.returns-clause-sound
returns-clause-sound c =
    let versions = c.args.versions.now in
    let header = c.in_ok-header.header in
    let front : List ℕ = take 12 c.args.octets.now in
    let behind : List ℕ = drop 12 c.args.octets.now in
    let is : c.copy_from_slice.new.self ≡ front = c.copy_from_slice.ensures.after ∙ c.front.ensures in
    let size : length front ≡ 12 = omega (arith, length-take 12 c.args.octets.now, c.requires.whole) in
    let all : take 12 front ≡ front = take_all 12 front (omega (arith, size)) in
    let told : header_at versions front ≡ Ok header = sym (header_same versions front behind (omega (arith, size))) ∙ ap (header_at versions) (take-append-drop 12 c.args.octets.now) ∙ sym c.in_ok-header.ensures.header in
    rw is (record {
      sized = size;
      few = omega arith;
      front = subst (λ (x : List ℕ). IsFront versions x (Some header.version)) (sym all) (header_front versions front header told);
      whole = ap (header_at versions) all ∙ told;
      partial = λ none. absurd cc;
    })
