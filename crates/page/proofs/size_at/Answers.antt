-- Each arm is a row of the table, by its number from 0: the byte lies in the row's first range, so that row decides.
use native.Mathlib.Omega.{arith}
use lib.Dec.{lit<}
use Rattle.page.specs.Utf8.{table}
use Rattle.page.proofs.Places.{by_number, past_size, between_size, ascii_size}
use Rattle.page.proofs.size_at.Goals as goal

pub returns-in-224 : goal.returns-in-224
unfolding table
returns-in-224 c =
    let a = c.args in
    by_number a.page.now a.at a.byte c.requires.at_in_bounds c.requires.byte_value 2 (lit< tt) (omega arith) (omega arith)
    _ c.size_by.ensures

pub returns-in-237 : goal.returns-in-237
unfolding table
returns-in-237 c =
    let a = c.args in
    by_number a.page.now a.at a.byte c.requires.at_in_bounds c.requires.byte_value 4 (lit< tt) (omega arith) (omega arith)
    _ c.size_by-in-237.ensures

pub returns-in-240 : goal.returns-in-240
unfolding table
returns-in-240 c =
    let a = c.args in
    by_number a.page.now a.at a.byte c.requires.at_in_bounds c.requires.byte_value 6 (lit< tt) (omega arith) (omega arith)
    _ c.size_by-in-240.ensures

pub returns-in-244 : goal.returns-in-244
unfolding table
returns-in-244 c =
    let a = c.args in
    by_number a.page.now a.at a.byte c.requires.at_in_bounds c.requires.byte_value 8 (lit< tt) (omega arith) (omega arith)
    _ c.size_by-in-244.ensures

pub returns-in-0-to-127 : goal.returns-in-0-to-127
returns-in-0-to-127 c =
    let a = c.args in
    ascii_size a.page.now a.at a.byte c.requires.at_in_bounds c.requires.byte_value (omega arith)

pub returns-in-194-to-223 : goal.returns-in-194-to-223
unfolding table
returns-in-194-to-223 c =
    let a = c.args in
    by_number a.page.now a.at a.byte c.requires.at_in_bounds c.requires.byte_value 1 (lit< tt) (omega arith) (omega arith)
    _ c.size_by-in-194-to-223.ensures

pub returns-in-225-to-236 : goal.returns-in-225-to-236
unfolding table
returns-in-225-to-236 c =
    let a = c.args in
    by_number a.page.now a.at a.byte c.requires.at_in_bounds c.requires.byte_value 3 (lit< tt) (omega arith) (omega arith)
    _ c.size_by-in-225-to-236.ensures

pub returns-in-238-to-239 : goal.returns-in-238-to-239
unfolding table
returns-in-238-to-239 c =
    let a = c.args in
    by_number a.page.now a.at a.byte c.requires.at_in_bounds c.requires.byte_value 5 (lit< tt) (omega arith) (omega arith)
    _ c.size_by-in-238-to-239.ensures

pub returns-in-241-to-243 : goal.returns-in-241-to-243
unfolding table
returns-in-241-to-243 c =
    let a = c.args in
    by_number a.page.now a.at a.byte c.requires.at_in_bounds c.requires.byte_value 7 (lit< tt) (omega arith) (omega arith)
    _ c.size_by-in-241-to-243.ensures

pub returns-in_default : goal.returns-in_default
returns-in_default c =
    let a = c.args in
    between_size a.page.now a.at a.byte c.requires.at_in_bounds c.requires.byte_value (omega arith) (omega arith)

pub returns-in_default-2 : goal.returns-in_default-2
returns-in_default-2 c =
    let a = c.args in
    past_size a.page.now a.at a.byte c.requires.at_in_bounds c.requires.byte_value (omega arith)
