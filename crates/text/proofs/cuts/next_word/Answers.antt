use Rattle.std.proofs.Common.{rules}
use Rattle.std.proofs.lemmas.List.{take_rest}
use Rattle.text.proofs.Joins.{words_apart}
use Rattle.text.proofs.Parted.{words_told, words_none}
use Rattle.text.proofs.cuts.next_word.Goals as goal

pub returns-in_err-start : goal.returns-in_err-start
returns-in_err-start c = record { next = search (rules, words_none); apart = words_apart _ }

pub returns : goal.returns
returns c = record { next = search (rules, words_told, take_rest); apart = words_apart _ }
