use Rattle.std.proofs.Common.{codes, arith}
use Rattle.script_lang.proofs.WordLemmas.{words_split}
use Rattle.script_lang.proofs.line.read_words.Goals as goal

pub returns-in_ok-day-in-Plan : goal.returns-in_ok-day-in-Plan
returns-in_ok-day-in-Plan c =
    let is = c.in_ok-day-in-Plan.ensures.ok (codes "plan") in
    let split = (words_split c.args.words.now c.in-len1-up.len_at_least).1 in
    grind arith

pub returns-in_ok-read_record-in-Add : goal.returns-in_ok-read_record-in-Add
returns-in_ok-read_record-in-Add c =
    let is = c.in_ok-read_record-in-Add.ensures.ok (codes "add") in
    let split = (words_split c.args.words.now c.in-len1-up.len_at_least).1 in
    grind arith

pub returns-in_ok-read_record-in-Change : goal.returns-in_ok-read_record-in-Change
returns-in_ok-read_record-in-Change c =
    let is = c.in_ok-read_record-in-Change.ensures.ok (codes "change") in
    let split = (words_split c.args.words.now c.in-len1-up.len_at_least).1 in
    grind arith

pub returns-in_ok-day-in-Try : goal.returns-in_ok-day-in-Try
returns-in_ok-day-in-Try c =
    let is = c.in_ok-day-in-Try.ensures.ok (codes "try") in
    let split = (words_split c.args.words.now c.in-len1-up.len_at_least).1 in
    grind arith

pub returns-in_ok-file-in-Load : goal.returns-in_ok-file-in-Load
returns-in_ok-file-in-Load c =
    let is = c.in_ok-file-in-Load.ensures.ok (codes "load") in
    let split = (words_split c.args.words.now c.in-len1-up.len_at_least).1 in
    grind arith

pub returns-in_ok-file-in-Open : goal.returns-in_ok-file-in-Open
returns-in_ok-file-in-Open c =
    let is = c.in_ok-file-in-Open.ensures.ok (codes "open") in
    let split = (words_split c.args.words.now c.in-len1-up.len_at_least).1 in
    grind arith
