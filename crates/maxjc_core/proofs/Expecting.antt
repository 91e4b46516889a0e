-- What the code has of the files of `expect`, said of the files.
use Rattle.std.proofs.Common.{◌⊎◌, inl, inr, ℕ, List, subst}
use Rattle.std.specs.Prelude.{IsSome}
use Rattle.mx_base.specs.Files.{Held}
use Rattle.stream_expect.specs.Expected.{IsExpectedOf}
use Rattle.maxjc_core.specs.Command.{ExpectNames}
use Rattle.maxjc_core.specs.ExpectCauses.{IsOfExpect, ExpectStands, LacksFile, LacksExpected}
use Rattle.maxjc_core.specs.ExpectStops.{
  AreRunInputs,
  AnswersAs,
  BeginsAs,
  BeginsIn,
  IsAnswerOf,
  readings_in,
}
use Rattle.maxjc_core.specs.Expecting.{IsExpectable, CanBegin}
use Rattle.maxjc_core.specs.InputWords.{HaveWords, IsFirstLineFault, LacksWords}
use Rattle.maxjc_core.specs.CompileStops.{IfRefused}
use Rattle.maxjc_core.specs.declared.begin.Begun.{Begun}
use Rattle.maxjc_core.specs.declared.expect.Answer.{Answer}
use Rattle.maxjc_core.specs.declared.stop.Stop.{Stop}
use Rattle.maxjc_core.proofs.Checking.{checkable}
use Rattle.maxjc_core.proofs.Linking.{fitting}
use Rattle.maxjc_core.proofs.Refusing.{refused-so}

-- the bytes that were read are those of the files
abbrev pub expectable : (names : ExpectNames) (held : Held) (source table report run : List ℕ)
    → AreRunInputs names held source table report run → IsExpectable names held
expectable names held source table report run are = record {
  check = checkable names.check held source table report are.check;
  run = run;
  run_is = are.run_is;
}

-- what the bytes begin the files begin
pub begins-of : (names : ExpectNames) (held : Held) (source table report run : List ℕ) (begun : Begun)
    → (IsSome held → AreRunInputs names held source table report run)
    → BeginsAs source table report run begun → IsSome held → BeginsIn names held begun
begins-of names held source table report run begun are begins told = record {
  files = expectable names held source table report run (are told);
  begins = begins;
}

-- and what they are refused for
pub expect-stands-of : (names : ExpectNames) (held : Held) (source table report run : List ℕ)
    (stop : Stop) → (IsSome held → AreRunInputs names held source table report run)
    → IfRefused stop (IsOfExpect source table report run)
    → IfRefused stop (λ cause. IsSome held → ExpectStands names held cause)
expect-stands-of names held source table report run stop are refused =
    refused-so stop (IsOfExpect source table report run)
    (λ cause. IsSome held → ExpectStands names held cause)
    (λ cause is told.
    ExpectStands.of_files (expectable names held source table report run (are told)) cause is)
    refused

-- ---- what was begun

abbrev pub can-begin : (names : ExpectNames) (held : Held) (begun : Begun)
    → BeginsIn names held begun → CanBegin names held
can-begin names held begun b = record {
  files = b.files;
  fit = fitting b.files.check.project.source b.files.check.project.table b.files.check.report
      b.files.run begun b.begins;
  few = b.begins.few;
}

-- a line that says no word is a cause
pub line-stands : (names : ExpectNames) (held : Held) (begun : Begun) (stop : Stop)
    → (IsSome held → BeginsIn names held begun)
    → IfRefused stop (λ cause. IsSome held → IsFirstLineFault held (readings_in begun) cause)
    → IfRefused stop (λ cause. IsSome held → ExpectStands names held cause)
line-stands names held begun stop begins refused =
    refused-so stop (λ cause. IsSome held → IsFirstLineFault held (readings_in begun) cause)
    (λ cause. IsSome held → ExpectStands names held cause)
    (λ cause fault told.
    ExpectStands.of_words (can-begin names held begun (begins told)) cause (fault told))
    refused

-- a file that can't be read is one of the inputs
pub lacks-input : {Rises : Type 0} (names : ExpectNames) (held : Held) (begun : Begun)
    → (LacksWords held (readings_in begun) → BeginsIn names held begun)
    → Rises ⊎ LacksWords held (readings_in begun) → Rises ⊎ LacksExpected names held
lacks-input names held begun begins (inl rises) = inl rises
lacks-input names held begun begins (inr lacks) =
    inr (inr (can-begin names held begun (begins lacks), lacks))

-- or of the four files
pub lacks-four : {Rises : Type 0} (names : ExpectNames) (held : Held)
    → Rises ⊎ LacksFile names held → Rises ⊎ LacksExpected names held
lacks-four names held (inl rises) = inl rises
lacks-four names held (inr lacks) = inr (inl lacks)

-- what is answered of the run that was begun is answered of the files
pub answers-of : (names : ExpectNames) (held : Held) (begun : Begun) (lists : List (List ℕ))
    (answer : Answer) → (IsSome held → BeginsIn names held begun)
    → (IsSome held → HaveWords held (readings_in begun) lists) → IsAnswerOf begun lists answer
    → IsSome held → AnswersAs names held answer
answers-of names held begun lists answer begins have a told =
    let b = begins told in
    record {
      expected = a.expected;
      is = record {
        can = record {
          begun = can-begin names held begun b;
          words = lists;
          have = have told;
        };
        given = a.is.given;
        gives = a.is.gives;
        is = subst
            (λ times. IsExpectedOf begun.linked.project times begun.linked.links a.is.given a.expected)
            b.begins.linked.times a.is.is;
      };
      outputs = a.outputs;
      words = a.words;
      lines = a.lines;
    }
