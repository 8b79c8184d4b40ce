-- `builder::build` meets its contract: the first test that refuses decides. Assumes nothing.
use Rattle.builder.proofs.BuildLaws.{by-counts, counted, by_length, by-fit, by_whole, node_records, mount_records, entry_records, by-record, too_short, fitting, written}
use borrow.Author.Rules.{rules}
use Rattle.std.proofs.lemmas.Result.{err_from_is_err_and}
use mathlib.Core.Path.{ap}
use mathlib.Core.Bool.{not}
use Rattle.builder.proofs.build.Goals as goal

pub returns-then-too_many : goal.returns-then-too_many
returns-then-too_many c = let a = c.args in
    let is = c.count-c.ensures in
    by-counts a.nodes.now a.mounts.now a.entries.now a.text.now a.out.now is c.too_many.ensures c.if-too_many.true

pub measure-l-requires : goal.measure-l-requires
measure-l-requires c = search (rules, counted)

pub returns-then-l-gt-MOST_IMAGE : goal.returns-then-l-gt-MOST_IMAGE
returns-then-l-gt-MOST_IMAGE c = let a = c.args in
    let is = c.count-c.ensures in
    by_length a.nodes.now a.mounts.now a.entries.now a.text.now a.out.now is c.measure-l.ensures c.if-l-gt-MOST_IMAGE.true

pub returns-then-not-counts_fit : goal.returns-then-not-counts_fit
returns-then-not-counts_fit c = let a = c.args in
    let is = c.count-c.ensures in
    by-fit a.nodes.now a.mounts.now a.entries.now a.text.now a.out.now is
    c.measure-l.ensures c.if-l-gt-MOST_IMAGE.false c.counts_fit.ensures (ap not c.if-not-counts_fit.true)

pub returns-then-not-records_whole : goal.returns-then-not-records_whole
returns-then-not-records_whole c = let a = c.args in
    let is = c.count-c.ensures in
    by_whole a.nodes.now a.mounts.now a.entries.now a.text.now a.out.now is
    c.measure-l.ensures c.if-l-gt-MOST_IMAGE.false c.counts_fit.ensures
    (ap not c.if-not-counts_fit.false) c.records_whole.ensures (ap not c.if-not-records_whole.true)

pub check_records-requires : goal.check_records-requires
check_records-requires c = search (rules, node_records, mount_records, entry_records)

pub returns-in_err-check_records : goal.returns-in_err-check_records
returns-in_err-check_records c = let a = c.args in
    let is = c.count-c.ensures in
    let handed-on = err_from_is_err_and c.from_residual.result c.from_residual.ensures.1 in
    by-record a.nodes.now a.mounts.now a.entries.now a.text.now a.out.now is
    c.measure-l.ensures c.if-l-gt-MOST_IMAGE.false
    c.counts_fit.ensures
    (ap not c.if-not-counts_fit.false) c.records_whole.ensures (ap not c.if-not-records_whole.false)
    c.check_records.ensures c.in_err-check_records.was handed-on.1 handed-on.2

pub returns-then-out-l : goal.returns-then-out-l
returns-then-out-l c = let a = c.args in
    let is = c.count-c.ensures in
    too_short a.nodes.now a.mounts.now a.entries.now a.text.now a.out.now is
    c.measure-l.ensures
    c.if-l-gt-MOST_IMAGE.false c.counts_fit.ensures
    (ap not c.if-not-counts_fit.false) c.records_whole.ensures
    (ap not c.if-not-records_whole.false) c.check_records.ensures c.in_ok-check_records.was c.if-out-l.true

pub put_image-requires : goal.put_image-requires
put_image-requires c = let a = c.args in
    let is = c.count-c.ensures in
    fitting a.nodes.now a.mounts.now a.entries.now a.text.now a.out.now is
    c.measure-l.ensures
    c.if-l-gt-MOST_IMAGE.false
    c.counts_fit.ensures
    (ap not c.if-not-counts_fit.false) c.records_whole.ensures
    (ap not c.if-not-records_whole.false)
    c.check_records.ensures
    c.in_ok-check_records.was c.if-out-l.false

pub returns : goal.returns
returns c = let a = c.args in
    let is = c.count-c.ensures in
    written a.nodes.now a.mounts.now a.entries.now a.text.now a.out.now is
    c.measure-l.ensures
    c.if-l-gt-MOST_IMAGE.false
    c.counts_fit.ensures
    (ap not c.if-not-counts_fit.false)
    c.records_whole.ensures
    (ap not c.if-not-records_whole.false)
    c.check_records.ensures c.in_ok-check_records.was c.if-out-l.false c.put_image.ensures
