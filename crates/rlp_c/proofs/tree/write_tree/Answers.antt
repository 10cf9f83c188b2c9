use Rattle.std.proofs.{Common.{arith, refl, subst}, lemmas.List.nil_from_length}
use Rattle.rlp_c.proofs.{Measuring.{IsWriting, all_placed, all_written, last_is, last_row, next_low, next_within, rows_before, size_fits, too_long, writing_none, writing_one}}
use Rattle.rlp_c.proofs.tree.write_tree.Goals as goal

pub loop-rest-init : goal.loop-rest-init
loop-rest-init c = writing_none c.args.bytes.now c.args.items.now c.args.out.now c.args.end

pub bounds-sizes-depth : goal.bounds-sizes-depth
bounds-sizes-depth c =
    let low = next_low _ _ c.loop-rest.rest.now (rows_before c.loop-rest.rest.now) (last_row c.loop-rest.rest.now)
    _ _ _ _ _ c.requires c.loop-rest.invariant (last_is c.loop-rest.rest.now c.in-len1-up.len_at_least) in
    omega (arith, low)

pub write_front-requires : goal.write_front-requires
write_front-requires c = next_within _ _ c.loop-rest.rest.now (rows_before c.loop-rest.rest.now) (last_row c.loop-rest.rest.now)
    _ _ _ _ _ c.requires c.loop-rest.invariant (last_is c.loop-rest.rest.now c.in-len1-up.len_at_least)

pub returns-in_default-write_front-clause-start : goal.returns-in_default-write_front-clause-start
returns-in_default-write_front-clause-start c = too_long _ _ c.loop-rest.rest.now (rows_before c.loop-rest.rest.now) (last_row c.loop-rest.rest.now)
    _ _ _ _ _ c.requires c.loop-rest.invariant (last_is c.loop-rest.rest.now c.in-len1-up.len_at_least) c.in_default-write_front.ensures.start

pub put_size-requires-clause-depth : goal.put_size-requires-clause-depth
put_size-requires-clause-depth c = next_low _ _ c.loop-rest.rest.now (rows_before c.loop-rest.rest.now) (last_row c.loop-rest.rest.now)
    _ _ _ _ _ c.requires c.loop-rest.invariant (last_is c.loop-rest.rest.now c.in-len1-up.len_at_least)

pub put_size-requires-clause-fits : goal.put_size-requires-clause-fits
put_size-requires-clause-fits c = size_fits _ _ c.loop-rest.rest.now (rows_before c.loop-rest.rest.now) (last_row c.loop-rest.rest.now)
    _ _ _ _ _ c.requires c.loop-rest.invariant (last_is c.loop-rest.rest.now c.in-len1-up.len_at_least) c.in-Some.start c.in-Some.ensures.start c.ranges.end.fits

pub loop-rest-preserved : goal.loop-rest-preserved
loop-rest-preserved c = writing_one _ _ c.loop-rest.rest.now (rows_before c.loop-rest.rest.now) (last_row c.loop-rest.rest.now)
    _ _ _ _ _ c.requires c.loop-rest.invariant (last_is c.loop-rest.rest.now c.in-len1-up.len_at_least) c.in-Some.start _ c.write_front.new.out c.put_size.new.sizes
    c.in-Some.ensures.start c.in-Some.ensures.written refl c.put_size.ensures

pub returns : goal.returns
returns c =
    let none = nil_from_length c.loop-rest.rest.now (omega (arith, c.in_default.len_below)) in
    let w = subst (λ rest. IsWriting c.args.bytes.now c.args.items.now rest c.loop-rest.sizes c.args.out.now c.args.end c.loop-rest.place c.loop-rest.out) none
    c.loop-rest.invariant in
    record { start = all_placed _ _ _ _ _ _ _ c.requires w; written = all_written _ _ _ _ _ _ _ c.requires w }
