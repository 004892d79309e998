use Rattle.std.proofs.Common.{ℕ, List, ◌++◌, ap, ◌∙◌, append_assoc}
use Rattle.std.proofs.lemmas.Result.{err_from_is_err_and}
use Rattle.giop_frames.proofs.Appended.{appended, failed_behind, failed_first}
use Rattle.giop_frames.proofs.encoding.append_parts.Goals as goal

pub returns : goal.returns
returns c =
    let padding = c.padding.result.now in
    let with_fields = c.in_ok-extend_from_slice-2.ensures.items ∙ ap (λ (x : List ℕ). x ++ c.args.fields.now) c.in_ok-extend_from_slice.ensures.items in
    let before = c.in_ok-extend_from_slice-3.ensures.items ∙ ap (λ (x : List ℕ). x ++ padding) with_fields in
    rw (c.header_octets.ensures, c.padding.ensures) at (appended c.extend_from_slice-4.result c.args.into.now.items c.header_octets.result c.args.fields.now padding c.args.told.now.behind.now c.extend_from_slice-3.new.self.items c.extend_from_slice-4.new.self.items before c.extend_from_slice-4.ensures.items)

pub returns-in_err-extend_from_slice : goal.returns-in_err-extend_from_slice
returns-in_err-extend_from_slice c =
    let p = err_from_is_err_and c.from_residual.result c.from_residual.ensures.1 in
    rw p.1 (failed_first p.0 _ c.args.into.now.items c.extend_from_slice.new.self.items c.in_err-extend_from_slice.ensures.items)

pub returns-in_err-extend_from_slice-2 : goal.returns-in_err-extend_from_slice-2
returns-in_err-extend_from_slice-2 c =
    let p = err_from_is_err_and c.from_residual-in_err-extend_from_slice-2.result c.from_residual-in_err-extend_from_slice-2.ensures.1 in
    rw p.1 (failed_behind p.0 _ c.args.into.now.items c.header_octets.result c.extend_from_slice-2.new.self.items (c.in_err-extend_from_slice-2.ensures.items ∙ c.in_ok-extend_from_slice.ensures.items))

pub returns-in_err-extend_from_slice-3 : goal.returns-in_err-extend_from_slice-3
returns-in_err-extend_from_slice-3 c =
    let p = err_from_is_err_and c.from_residual-in_err-extend_from_slice-3.result c.from_residual-in_err-extend_from_slice-3.ensures.1 in
    let old = c.args.into.now.items in
    let header = c.header_octets.result in
    let with_fields = c.in_ok-extend_from_slice-2.ensures.items ∙ ap (λ (x : List ℕ). x ++ c.args.fields.now) c.in_ok-extend_from_slice.ensures.items in
    rw p.1 (failed_behind p.0 _ old (header ++ c.args.fields.now) c.extend_from_slice-3.new.self.items (c.in_err-extend_from_slice-3.ensures.items ∙ with_fields ∙ append_assoc old header c.args.fields.now))
