use Rattle.mm_run.proofs.respond.answer_text.Goals as goal

pub returns-in-Instrument : goal.returns-in-Instrument
returns-in-Instrument c = rw c.in-Instrument.is c.answer_instrument.ensures

pub returns-in-ReplaySc : goal.returns-in-ReplaySc
returns-in-ReplaySc c = rw c.in-ReplaySc.is c.answer_replay.ensures

pub returns-in-Replay : goal.returns-in-Replay
returns-in-Replay c = rw c.in-Replay.is c.answer_replay-in-Replay.ensures

pub returns-in-Cycles : goal.returns-in-Cycles
returns-in-Cycles c = rw c.in-Cycles.is c.answer_cycles.ensures
