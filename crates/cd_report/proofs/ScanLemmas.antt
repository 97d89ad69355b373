-- One pass over an image that reports on it: its progress, and its end.
use Rattle.std.proofs.Common.{◌≡◌, ℕ, ◌+◌, ◌*◌, ◌<◌, ◌≤◌, true, List, [], ◌∷◌, ◌++◌, length, take, Ok, Err, refl, sym, ap, ◌∙◌, arith, length-append, append_assoc, append-nil, take_at}
use Rattle.std.proofs.KnownBytes.{Consumes-nil}
use Rattle.std.proofs.lemmas.Grind.{flat_map-append}
use Rattle.std.proofs.lemmas.List.{length-take-le}
use Rattle.cd_sector.specs.Image.{image_limit, sectors, tail}
use Rattle.cd_report.specs.Lines.{all_but_last, text_of}
use Rattle.cd_read.specs.Ends.{MayBeImageAtEnd}
use Rattle.cd_read.specs.Reading.{EndComes, ReadsSector, SectorComes}
use Rattle.cd_report.specs.Report.{ReportAnswers, Reports}
use Rattle.cd_report.specs.Scanning.{FailsToFinish, HasFailed, HasVisited, Remaining, spec_of}
use Rattle.cd_read.specs.declared.fault.Fault.{Fault}
use Rattle.cd_read.specs.declared.fault.Fault.TheVariants.{Log, Read, TooLong, Write}
use Rattle.cd_stream.specs.Stream.{Incoming, IsBeginning, Outgoing}
use Rattle.cd_stream.specs.Transfer.{Gives, Takes}
use Rattle.cd_stream.proofs.TransferLemmas.{Gives-trans, Takes-nil, Takes-trans}
use Rattle.cd_sector.proofs.ImageLemmas.{length-tail, sectors-sector, sectors-short}
use Rattle.cd_read.proofs.EndLemmas.{Fits-begins, MayBeImageAtEnd-begins, MayBeImageAtEnd-end}
use Rattle.cd_report.proofs.PassLemmas.{IsBeginning-after, IsBeginning-take}

-- ---- lines

pub text_of-append : (front after : List (List ℕ))
    → text_of (front ++ after) ≡ text_of front ++ text_of after
text_of-append front after = flat_map-append (λ line. line) front after

all_but_last-append : (front : List (List ℕ)) (line : List ℕ)
    → all_but_last (front ++ line ∷ []) ≡ front
all_but_last-append [] line = refl
all_but_last-append (x ∷ []) line = refl
all_but_last-append (x ∷ y ∷ ys) line = ap (λ ls. x ∷ ls) (all_but_last-append (y ∷ ys) line)

all_but_last-begins : (lines : List (List ℕ))
    → IsBeginning (text_of (all_but_last lines)) (text_of lines)
all_but_last-begins [] = ([], refl)
all_but_last-begins (x ∷ []) = (text_of (x ∷ []), refl)
all_but_last-begins (x ∷ y ∷ ys) =
    IsBeginning-after x (text_of (all_but_last (y ∷ ys))) (text_of (y ∷ ys))
    (all_but_last-begins (y ∷ ys))

-- ---- the pass

-- after `count` sectors: whatever sectors may still follow, the complete report is the bytes
-- written and those that are still to be written
pub record ScanInvariant {T : Type 0} (first now : Remaining T) (image image' : Incoming)
    (out out' : Outgoing) (count : ℕ) : Type 0 where
  pub read : List ℕ
  pub sent : List (List ℕ)
  pub done : List (List ℕ)
  pub gives : Gives image image' read
  pub takes : Takes out out' (text_of sent)
  pub unflushed : out'.flushes ≡ out.flushes
  pub reads : image'.failures ≡ image.failures
  pub writes : out'.failures ≡ out.failures
  pub counted : length done ≡ count
  pub size : length read ≡ 2352 * count
  pub cut : (more : List ℕ) → sectors (read ++ more) ≡ done ++ sectors more
  pub lines : (others : List (List ℕ)) → first.lines (done ++ others) ≡ sent ++ now.lines others
  pub end : (others : List (List ℕ)) (left : ℕ)
      → first.end (done ++ others) left ≡ now.end others left
  pub tally : (others : List (List ℕ)) (left : ℕ)
      → first.tally (done ++ others) left ≡ now.tally others left
  pub nothing_due : now.lines [] ≡ []

pub ScanInvariant-start : {T : Type 0} (first : Remaining T) (image : Incoming) (out : Outgoing)
    → first.lines [] ≡ [] → ScanInvariant first first image image out out 0
ScanInvariant-start first image out none = record {
  read = [];
  sent = [];
  done = [];
  gives = record { consumes = Consumes-nil image.rest; counted = omega arith };
  takes = Takes-nil out;
  unflushed = refl;
  reads = refl;
  writes = refl;
  counted = refl;
  size = refl;
  cut = λ more. refl;
  lines = λ others. refl;
  end = λ others left. refl;
  tally = λ others left. refl;
  nothing_due = none;
}

module _ {T : Type 0} {first now : Remaining T} {image before : Incoming} {out sunk : Outgoing}
    {count : ℕ}
    (reported : ScanInvariant first now image before out sunk count) where
  -- the text of an image that begins with the bytes read
  known : (more : List ℕ)
      → (spec_of first).text (reported.read ++ more)
      ≡ text_of reported.sent
      ++ (text_of (now.lines (sectors more))
      ++ now.end (sectors more) (length (tail (reported.read ++ more))))
  known more = simp (reported.cut, reported.lines, reported.end, text_of-append, append_assoc)

  sent_begins : (more : List ℕ)
      → IsBeginning (text_of reported.sent) ((spec_of first).text (reported.read ++ more))
  sent_begins more = (_, known more)

  module _ {after : Incoming} {came : List ℕ} (gives : Gives before after came) where
    gives_all : Gives image after (reported.read ++ came)
    gives_all = Gives-trans _ _ _ _ _ reported.gives gives

    length_read : length (reported.read ++ came) ≡ 2352 * count + length came
    length_read = omega (arith, length-append reported.read came)

    module _ (short : length came < 2352) where
      done_is : sectors (reported.read ++ came) ≡ reported.done ++ []
      done_is = simp (reported.cut, sectors-short)

      -- the lines that are due are those that were written
      due_is : (spec_of first).due (reported.read ++ came) ≡ reported.sent
      due_is =
          ap first.lines done_is ∙ reported.lines [] ∙ simp (reported.nothing_due, append-nil)

      -- the pass ends here, with no flush
      stopped : {fault : Fault}
          → ReportAnswers (spec_of first) (reported.read ++ came) (text_of reported.sent)
          image after out sunk (Err fault)
          → Reports (spec_of first) image after out sunk (Err fault)
      stopped answers = record {
        read = reported.read ++ came;
        sent = text_of reported.sent;
        gives = gives_all;
        takes = reported.takes;
        flushes = omega arith;
        answers = answers;
      }

  -- the next sector was not read
  pub ScanInvariant-unread : {after : Incoming} (bytes : List ℕ) (fault : Fault)
      → ReadsSector count bytes before after (Err fault)
      → Reports (spec_of first) image after out sunk (Err fault)
  ScanInvariant-unread {after} bytes Read r =
      let gives : Gives before after r.came =
      record { consumes = r.consumes; counted = r.counted } in
      stopped gives r.short (record {
        reads = omega arith;
        writes = reported.writes;
        unflushed = reported.unflushed;
        unended = r.unended;
        within = omega (arith, length_read gives);
        due_sent = ap text_of (sym (due_is gives r.short));
        beginning = λ whole fits.
            let begins = Fits-begins _ whole (omega (arith, length_read gives)) fits in
            rw (begins.1, append_assoc) (sent_begins (r.came ++ begins.0));
      })
  ScanInvariant-unread {after} bytes TooLong r =
      let gives : Gives before after r.came =
      record { consumes = r.consumes; counted = r.counted } in
      let short : length r.came < 2352 = omega arith in
      stopped gives short (record {
        reads = omega arith;
        writes = reported.writes;
        unflushed = reported.unflushed;
        unended = r.unended;
        beyond = omega (arith, length_read gives);
        due_sent = ap text_of (sym (due_is gives short));
        beginning = λ whole fits.
            let limited : take image_limit (reported.read ++ r.came) ≡ reported.read =
            take_at reported.read r.came image_limit (reported.size ∙ r.full) in
            rw (fits.begins.1, limited) (sent_begins fits.begins.0);
      })
  ScanInvariant-unread bytes Write r = elim r [ ]
  ScanInvariant-unread bytes Log r = elim r [ ]

  -- a sector was read
  module _ {after : Incoming} {came : List ℕ} (comes : SectorComes count came before after) where
    came_all : Gives image after (reported.read ++ came)
    came_all =
        gives_all (record { consumes = comes.consumes; counted = omega arith })

    pub ScanInvariant-next : {next : Remaining T} {sunk' : Outgoing}
        → HasVisited now next came sunk sunk' → sunk'.flushes ≡ sunk.flushes
        → sunk'.failures ≡ sunk.failures
        → ScanInvariant first next image after out sunk' (count + 1)
    ScanInvariant-next taken unflushed wrote = record {
      read = reported.read ++ came;
      sent = reported.sent ++ taken.sent;
      done = reported.done ++ came ∷ [];
      gives = came_all;
      takes = rw text_of-append (Takes-trans _ _ _ _ _ reported.takes taken.takes);
      unflushed = omega arith;
      reads = omega arith;
      writes = omega arith;
      counted = omega (arith, length-append reported.done (came ∷ []));
      size = omega (arith, length-append reported.read came);
      cut = λ more. simp (append_assoc, reported.cut, sectors-sector, comes.size);
      lines = λ others. simp (append_assoc, reported.lines, taken.lines);
      end = λ others left. simp (append_assoc, reported.end, taken.end);
      tally = λ others left. simp (append_assoc, reported.tally, taken.tally);
      nothing_due = taken.nothing_due;
    }

    pub ScanInvariant-write : {sunk' : Outgoing} → HasFailed now came sunk sunk'
        → sunk'.flushes ≡ sunk.flushes → sunk'.failures ≡ sunk.failures + 1
        → Reports (spec_of first) image after out sunk' (Err Write)
    ScanInvariant-write failed unflushed rose = record {
      read = reported.read ++ came;
      sent = text_of reported.sent ++ part;
      gives = came_all;
      takes = Takes-trans _ _ _ _ _ reported.takes failed.takes;
      flushes = omega arith;
      answers = record {
        reads = omega arith;
        writes = omega arith;
        unflushed = λ short. omega arith;
        within = within;
        due_sent = (part, rw (due_is, all_but_last-append));
        beginning = λ whole fits.
            let text = text_is whole fits in
            rw text.1
            (IsBeginning-after _ _ _ (IsBeginning-take failed.count failed.line text.0));
        cut = λ sure whole fits.
            omega (
              arith,
              ap length (text_is whole fits).1,
              failed.cut,
              length-append {A = ℕ},
              length-take-le failed.count failed.line,
            );
      };
    }
      where
        part : List ℕ
        part = take failed.count failed.line

        within : length (reported.read ++ came) ≤ image_limit
        within = omega (arith, length-append reported.read came)

        due_is : (spec_of first).due (reported.read ++ came) ≡ reported.sent ++ failed.line ∷ []
        due_is =
            let only : sectors came ≡ came ∷ [] =
            ap sectors (sym (append-nil came)) ∙ sectors-sector came [] comes.size
            ∙ rw (sectors-short [] (omega arith)) in
            simp (reported.cut, only, reported.lines, failed.lines, failed.last)

        -- the line that failed, and the text after it
        text_is : (whole : List ℕ) → MayBeImageAtEnd after.rest (reported.read ++ came) whole
            → (others : List ℕ)
            × ((spec_of first).text whole ≡ text_of reported.sent ++ (failed.line ++ others))
        text_is whole fits =
            let begins = MayBeImageAtEnd-begins after.rest _ whole within fits in
            let more = begins.0 in
            let left = length (tail (reported.read ++ (came ++ more))) in (
              text_of (failed.after (sectors more)) ++ now.end (came ∷ sectors more) left,
              ap (spec_of first).text (begins.1 ∙ append_assoc reported.read came more)
                  ∙ known (came ++ more)
                  ∙ simp (sectors-sector came more comes.size, failed.lines, append_assoc),
            )

  -- the image has ended
  module _ {after : Incoming} {left : ℕ} {bytes : List ℕ}
      (comes : EndComes count left bytes before after) where
    came : List ℕ
    came = take left bytes

    gives : Gives before after came
    unfolding came
    gives = record { consumes = comes.consumes; counted = omega arith }

    short : length came < 2352
    unfolding came
    short = omega arith

    within : length (reported.read ++ came) ≤ image_limit
    unfolding came
    within = omega (arith, length-append reported.read came)

    tail_is : length (tail (reported.read ++ came)) ≡ left
    unfolding came
    tail_is = length-tail reported.read came count reported.size short ∙ comes.size

    text_is : (spec_of first).text (reported.read ++ came)
        ≡ text_of reported.sent ++ now.end [] left
    text_is = known came ∙ simp (sectors-short, short, reported.nothing_due, tail_is)

    pub ScanInvariant-end : {sunk' : Outgoing} {answer : T} → answer ≡ now.tally [] left
        → (sunk'.finished ≡ true) × Takes sunk sunk' (now.end [] left)
        → sunk'.flushes ≡ sunk.flushes + 1 → sunk'.failures ≡ sunk.failures
        → Reports (spec_of first) image after out sunk' (Ok answer)
    ScanInvariant-end is finished flushed wrote = record {
      read = reported.read ++ came;
      sent = text_of reported.sent ++ now.end [] left;
      gives = gives_all gives;
      takes = Takes-trans _ _ _ _ _ reported.takes finished.1;
      flushes = omega arith;
      answers = record {
        reads = omega arith;
        writes = omega arith;
        finished = finished.0;
        at_end = comes.at_end;
        ended = comes.ended;
        within = within;
        whole_sent = sym text_is;
        tally_right = is ∙ sym (rw (tail_is, done_is gives short) (reported.tally [] left));
      };
    }

    pub ScanInvariant-end_failed : {sunk' : Outgoing} → FailsToFinish (now.end [] left) sunk sunk'
        → (sunk.flushes ≤ sunk'.flushes) × (sunk'.flushes ≤ sunk.flushes + 1)
        → sunk'.failures ≡ sunk.failures + 1
        → Reports (spec_of first) image after out sunk' (Err Write)
    ScanInvariant-end_failed finished flushed failed = record {
      read = reported.read ++ came;
      sent = text_of reported.sent ++ finished.sent;
      gives = gives_all gives;
      takes = Takes-trans _ _ _ _ _ reported.takes finished.takes;
      flushes = omega arith;
      answers = record {
        reads = omega arith;
        writes = omega arith;
        unflushed =
            λ less.
            finished.unflushed (omega (arith, less, ap length text_is, length-append {A = ℕ}))
            ∙ reported.unflushed;
        within = within;
        due_sent =
            let begins = all_but_last-begins reported.sent in
            rw (due_is gives short) (begins.0 ++ finished.sent, rw (begins.1, append_assoc));
        beginning = λ whole fits.
            rw (MayBeImageAtEnd-end after.rest _ whole comes.at_end fits, text_is)
            (IsBeginning-after _ _ _ finished.begins);
        cut = λ sure whole fits.
            rw (MayBeImageAtEnd-end after.rest _ whole comes.at_end fits)
            (omega (
              arith,
              finished.cut (reported.takes.flush_may_fail ∙ sure),
              ap length text_is,
              length-append {A = ℕ},
            ));
      };
    }
