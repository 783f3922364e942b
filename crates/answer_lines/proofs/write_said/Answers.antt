-- The word behind the 0, with its value where it has one.
use Rattle.messages.specs.Answers.{words_of}
use Rattle.answer_lines.proofs.Lines.{word_line, value_line}
use Rattle.answer_lines.proofs.write_said.Goals as goal

pub returns-in-Unregistered : goal.returns-in-Unregistered
unfolding words_of
returns-in-Unregistered c =
    rw (c.in-Unregistered.is, word_line "unregistered") c.write_word.ensures

pub returns-in-Running : goal.returns-in-Running
unfolding words_of
returns-in-Running c =
    rw (c.in-Running.is, word_line "running") c.write_word-in-Running.ensures

pub returns-in-Stopped : goal.returns-in-Stopped
unfolding words_of
returns-in-Stopped c =
    rw (c.in-Stopped.is, word_line "stopped") c.write_word-in-Stopped.ensures

pub returns-in-Silent : goal.returns-in-Silent
unfolding words_of
returns-in-Silent c =
    rw (c.in-Silent.is, word_line "silent") c.write_word-in-Silent.ensures

pub returns-in-Cut : goal.returns-in-Cut
unfolding words_of
returns-in-Cut c =
    rw (c.in-Cut.is, word_line "cut") c.write_word-in-Cut.ensures

pub returns-in-Waiting : goal.returns-in-Waiting
unfolding words_of
returns-in-Waiting c =
    rw (c.in-Waiting.is, word_line "waiting") c.write_word-in-Waiting.ensures

pub returns-in-Late : goal.returns-in-Late
unfolding words_of
returns-in-Late c =
    rw (c.in-Late.is, word_line "late") c.write_word-in-Late.ensures

pub returns-in-Unknown : goal.returns-in-Unknown
unfolding words_of
returns-in-Unknown c =
    rw (c.in-Unknown.is, word_line "unknown") c.write_word-in-Unknown.ensures

pub returns-in-Dead : goal.returns-in-Dead
unfolding words_of
returns-in-Dead c = rw (c.in-Dead.is, value_line "dead" c.in-Dead.m) c.write_one.ensures

pub returns-in-Alive : goal.returns-in-Alive
unfolding words_of
returns-in-Alive c = rw (c.in-Alive.is, value_line "alive" c.in-Alive.m) c.write_one-in-Alive.ensures
