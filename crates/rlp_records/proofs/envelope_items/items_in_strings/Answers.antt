use Rattle.std.proofs.Common.{rules, ◌<◌, ◌≤◌, ◌^◌, length, arith}
use Rattle.rlp_records.proofs.Scanning.{content_short, list_uncounted, scan_ends, scan_item, scan_passed, string_counted}
use Rattle.rlp_records.proofs.envelope_items.items_in_strings.Goals as goal

pub loop-framed-preserved-then-not-is_list : goal.loop-framed-preserved-then-not-is_list
loop-framed-preserved-then-not-is_list c =
    let item = c.in-Ok.framed.item.now in
    let content = c.in-Ok.framed.content.now in
    let whole : length c.args.bytes.now < 2 ^ 64 = search rules in
    let small : length item < 2 ^ 64 = search rules in
    let size : length content ≤ length item = content_short item content c.in-Ok.framed.header.header_len c.in-Ok.framed.begins in
    let few = c.items_in_string-count.ensures.few in
    scan_item 0 c.args.bytes.now c.loop-framed.rest.now item c.in-Ok.others.now c.loop-framed.count c.items_in_string-count.result whole c.in-Ok.ensures.item
    c.in-Ok.ensures.whole
    (string_counted item content c.in-Ok.framed.reads small c.items_in_string-count.result (search rules) c.items_in_string-count.ensures.count)
    (omega (arith, few, size)) c.loop-framed.invariant

pub loop-framed-preserved : goal.loop-framed-preserved
loop-framed-preserved c =
    let item = c.in-Ok.framed.item.now in
    let whole : length c.args.bytes.now < 2 ^ 64 = search rules in
    let small : length item < 2 ^ 64 = search rules in
    scan_passed 0 c.args.bytes.now c.loop-framed.rest.now item c.in-Ok.others.now c.loop-framed.count whole c.in-Ok.ensures.item
    c.in-Ok.ensures.whole
    (list_uncounted item c.in-Ok.framed.content.now c.in-Ok.framed.reads small (search rules))
    c.loop-framed.invariant

pub returns-clause-count : goal.returns-clause-count
returns-clause-count c =
    scan_ends 0 c.args.bytes.now c.loop-framed.rest.now c.loop-framed.count _ (search rules) c.in_default.ensures.frame c.loop-framed.invariant
